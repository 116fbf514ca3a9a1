use Rattle.std.proofs.Common.{◌-◌, List, length, slice_get, ap, ◌∙◌}
use Rattle.event_offers.specs.declared.drafts.Draft.{Draft}
use Rattle.draft_parts.proofs.RowDraftLemmas.{leftmost_last}
use Rattle.draft_parts.proofs.rows.Row.leftmost.Goals as goal

pub returns-in-Some : goal.returns-in-Some
returns-in-Some c =
    leftmost_last c.args.self.now.right c.args.self.now.lefts.items c.in-Some.left.now
    (c.in-Some.ensures.value ∙ ap (λ (ds : List Draft). slice_get ds (length ds - 1)) c.deref.ensures.value)
