use Rattle.std.proofs.Common.{◌≤◌, length, drop}
use Rattle.lotos_base.specs.Signature.{Signature}
use Rattle.behaviour_semantics.specs.WellFormed.{Every}
use Rattle.behaviour_tree.specs.BehaviourView.{meet_of}
use Rattle.draft_parts.specs.DraftTerms.{HasTermsOf}
use Rattle.draft_parts.specs.Lists.{plain_drafts}
use Rattle.draft_parts.specs.HasDrafts.{row_drafts}
use Rattle.draft_parts.specs.Rows.{calls_copied}
use Rattle.draft_parts.specs.RowDrafts.{IsThisSide}
use Rattle.draft_parts.proofs.gates.calls_beside.Given as goal

abbrev pub invariant-loop-at : goal.invariant-loop-at
invariant-loop-at l =
    (l.at ≤ length l.gates.items)
    × ((signature : Signature) → Every (HasTermsOf signature) l.part.items
    → IsThisSide signature l.first (row_drafts signature (meet_of l.meet) l.first
    (calls_copied l.formal (drop l.at l.gates.items) l.call.formals.now.items l.call.actuals.now.items (plain_drafts l.part.items)))
    l.made)

abbrev pub decreases-loop-at : goal.decreases-loop-at
decreases-loop-at l = l.at
