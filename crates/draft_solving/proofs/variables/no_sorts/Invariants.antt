use Rattle.std.proofs.Common.{◌≡◌, ◌++◌, [], drop}
use Rattle.behaviour_tree.specs.BehaviourView.{terms_of}
use Rattle.draft_solving.specs.Variables.{leaf_sorts}
use Rattle.draft_solving.proofs.variables.no_sorts.Given as goal

abbrev pub invariant-loop-leaf : goal.invariant-loop-leaf
invariant-loop-leaf l =
    l.sorts.items ++ leaf_sorts l._leaf-index (terms_of (drop l._leaf-index l._leaf-items)) [] ≡ leaf_sorts 0 (terms_of l._leaf-items) []
