use Rattle.std.proofs.Common.{◌≡◌, ◌≤◌, drop, length}
use Rattle.behaviour_tree.specs.BehaviourView.{terms_of}
use Rattle.draft_solving.specs.Variables.{leaf_sorts}
use Rattle.draft_solving.proofs.variables.sorts_by_number.Given as goal

abbrev pub invariant-loop-i : goal.invariant-loop-i
invariant-loop-i l =
    (l.sorts.items ≡ leaf_sorts 0 (terms_of l.leaves.items) (terms_of (drop l.i l.leaves.items)))
    × (l.i ≤ length l.leaves.items)

abbrev pub decreases-loop-i : goal.decreases-loop-i
decreases-loop-i l = l.i
