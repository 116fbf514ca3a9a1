use Rattle.std.proofs.Common.{refl}
use Rattle.draft_parts.proofs.TurnedLemmas.{turned_whole, turned_whole_over}
use Rattle.draft_parts.proofs.turned.Turned.whole.Goals as goal

pub returns-clause-same : goal.returns-clause-same
returns-clause-same c =
    turned_whole c.args.self c.reversed-draft.result c.in_ok-conditions.conditions.items c.reversed-draft.ensures.same
    c.in_ok-conditions.ensures

pub returns-clause-over : goal.returns-clause-over
returns-clause-over c = λ signature h.
    turned_whole_over signature c.args.self c.reversed-draft.result _ refl refl c.in_ok-conditions.ensures
    (c.reversed-draft.ensures.over signature h.draft) h
