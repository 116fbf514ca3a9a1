use Rattle.std.proofs.Common.{◌≡◌, ◌++◌, map, drop}
use Rattle.behaviour_tree.specs.BehaviourTerms.{profiles_of}
use Rattle.behaviour_tree.specs.StateView.{pair_profile}
use Rattle.draft_parts.proofs.environments.paired_terms.Given as goal

abbrev pub invariant-loop-pair : goal.invariant-loop-pair
invariant-loop-pair l =
    profiles_of l.made.items ++ map pair_profile (drop l.pair-index l.pair-items) ≡ map pair_profile l.pair-items
