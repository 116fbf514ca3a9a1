use Rattle.std.proofs.Common.{refl}
use Rattle.draft_parts.proofs.TurnedLemmas.{reversed_is, reversed_over}
use Rattle.draft_parts.proofs.turned.reversed.Goals as goal

pub returns-clause-same : goal.returns-clause-same
returns-clause-same c =
    reversed_is c.args.draft c.reverse.new.self.items c.reverse-2.new.self.items c.reverse.ensures.items c.reverse-2.ensures.items

pub returns-clause-over : goal.returns-clause-over
returns-clause-over c = λ signature h. reversed_over signature c.args.draft _ refl c.reverse.ensures.items c.reverse-2.ensures.items h
