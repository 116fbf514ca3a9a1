use Rattle.std.proofs.Common.{◌≡◌, ◌+◌, drop}
use Rattle.draft_parts.specs.Lists.{plain_drafts}
use Rattle.draft_parts.specs.RowDrafts.{number_of_row_leaves}
use Rattle.draft_parts.proofs.rows.leaves_of.Given as goal

abbrev pub invariant-loop-draft : goal.invariant-loop-draft
invariant-loop-draft l =
    l.count + number_of_row_leaves (plain_drafts (drop l.draft-index l.draft-items)) ≡ number_of_row_leaves (plain_drafts l.draft-items)
