use Rattle.std.proofs.Common.{sym, subst}
use Rattle.std.proofs.lemmas.Result.{IfOk-weaker}
use Rattle.draft_parts.specs.Made.{AreThese}
use Rattle.draft_parts.specs.RowDrafts.{IsRowSideOf, side_drafts}
use Rattle.draft_parts.specs.declared.rows.Side.{Side}
use Rattle.draft_parts.proofs.rows.Side.drafts.Goals as goal

pub returns-in-Met : goal.returns-in-Met
returns-in-Met c =
    IfOk-weaker c.drafts.result _ _ (λ made e signature.
    subst (λ (side : Side). IsRowSideOf signature side → AreThese signature (side_drafts c.args.first side) made.items) (sym c.in-Met.is)
    (e signature)) c.drafts.ensures
