use Rattle.std.proofs.lemmas.Result.{IfOk-weaker}
use Rattle.menu_builder.proofs.ListedLemmas.{one_made}
use Rattle.menu_builder.proofs.events.inner_moves.Goals as goal

pub returns : goal.returns
returns c =
    IfOk-weaker c.one.result _ _
    (λ made e signature. one_made signature _ c.inner_draft.result made.items e c.inner_draft.ensures.same
    (c.inner_draft.ensures.over signature))
    c.one.ensures
