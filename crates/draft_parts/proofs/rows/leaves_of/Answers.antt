use Rattle.std.proofs.Common.{◌≡◌, ◌+◌, List, length, ap, ◌∙◌, arith}
use Rattle.event_offers.specs.declared.drafts.Draft.{Draft}
use Rattle.draft_parts.specs.Lists.{plain_drafts}
use Rattle.draft_parts.specs.RowDrafts.{number_of_row_leaves}
use Rattle.draft_parts.proofs.RowDraftLemmas.{leaves_more, leaves_done}
use Rattle.draft_parts.proofs.rows.leaves_of.Goals as goal

pub loop-draft-preserved : goal.loop-draft-preserved
loop-draft-preserved c =
    leaves_more c.deref-draft-items.result.now c.loop-draft.draft-index c.draft-item.result c.loop-draft.count c.in-Some.sum c.len.result
    c.loop-draft-test.true c.draft-item.is
    (let size : c.len.result ≡ length c.draft-item.result.leaves.items = omega arith in size)
    (let sum : c.in-Some.sum ≡ c.loop-draft.count + c.len.result = omega arith in sum)
    c.loop-draft.invariant

pub returns : goal.returns
returns c =
    leaves_done c.deref-draft-items.result.now c.loop-draft.draft-index c.loop-draft.count c.loop-draft-test.false c.loop-draft.invariant
    ∙ ap (λ (ds : List Draft). number_of_row_leaves (plain_drafts ds)) c.deref-draft-items.ensures.value
