use Rattle.std.proofs.lemmas.Result.{IfOk-weaker}
use Rattle.draft_parts.specs.RowDrafts.{draft_of_row}
use Rattle.draft_parts.proofs.RowDraftLemmas.{one_made}
use Rattle.draft_parts.proofs.rows.Row.drafts.Goals as goal

pub returns : goal.returns
returns c =
    IfOk-weaker c.one.result _ _ (λ made e signature h.
    one_made signature made.items c.in_ok-made.made (draft_of_row c.args.first c.args.self) e c.in_ok-made.ensures.same
    (c.in_ok-made.ensures.over signature h)) c.one.ensures
