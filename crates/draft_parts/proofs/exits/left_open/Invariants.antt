use Rattle.std.proofs.Common.{◌≡◌, ◌++◌, drop}
use Rattle.behaviour_tree.specs.BehaviourTerms.{profiles_of}
use Rattle.draft_parts.specs.Offered.{open_leaves}
use Rattle.draft_parts.proofs.exits.left_open.Given as goal

abbrev pub invariant-loop-result : goal.invariant-loop-result
invariant-loop-result l =
    profiles_of l.made.items ++ open_leaves l.number (drop l.result-index l.result-items) ≡ open_leaves l.fn.first l.result-items
