use Rattle.std.proofs.Common.{◌∙◌}
use Rattle.std.specs.Prelude.{zip}
use Rattle.behaviour_semantics.specs.Rule.{pairwise}
use Rattle.draft_parts.proofs.TurnedLemmas.{turned_more, turned_more_over}
use Rattle.draft_parts.proofs.turned.Turned.with_left.Goals as goal

pub returns-clause-same : goal.returns-clause-same
returns-clause-same c =
    turned_more c.args.self c.args.left c.reversed.result c.in_ok-draft.draft c.in_ok-last.last.items c.in_ok-met.met.items
    c.reversed.ensures.same c.in_ok-draft.ensures.same
    c.in_ok-last.ensures
    (c.in_ok-met.ensures.same
    ∙ (λ i. pairwise (c.values.ensures.same i) (c.values-2.ensures.same i)))

pub returns-clause-over : goal.returns-clause-over
returns-clause-over c = λ signature h k.
    turned_more_over signature c.args.self _ c.args.left c.in_ok-met.met.items
    (c.in_ok-draft.ensures.over signature k.draft (c.reversed.ensures.over signature h)) c.in_ok-last.ensures
    (c.in_ok-met.ensures.profiles ∙ (λ i. zip (c.values.ensures.profiles i) (c.values-2.ensures.profiles i))) h k
