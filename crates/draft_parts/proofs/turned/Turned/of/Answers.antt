use Rattle.draft_parts.proofs.TurnedLemmas.{turned_begun, turned_begun_over}
use Rattle.draft_parts.proofs.turned.Turned.of.Goals as goal

pub returns-clause-same : goal.returns-clause-same
returns-clause-same c = turned_begun c.args.draft c.reversed.result c.new.result.items c.reversed.ensures.same c.new.ensures.items

pub returns-clause-over : goal.returns-clause-over
returns-clause-over c = λ signature h. turned_begun_over signature _ c.new.ensures.items (c.reversed.ensures.over signature h)
