use Rattle.std.proofs.Common.{◌≡◌, ◌++◌, map, drop}
use Rattle.behaviour_tree.specs.StateView.{environment_pair_of, pair_profile, pair_with_profile}
use Rattle.behaviour_tree.proofs.copies.environment_copy.Given as goal

abbrev pub invariant-loop-pair : goal.invariant-loop-pair
invariant-loop-pair l =
    (map environment_pair_of l.made.items ++ map environment_pair_of (drop l.pair-index l.pair-items)
    ≡ map environment_pair_of l.pair-items)
    × (map pair_profile l.made.items ++ map pair_profile (drop l.pair-index l.pair-items) ≡ map pair_profile l.pair-items)
    × (map pair_with_profile l.made.items ++ map pair_with_profile (drop l.pair-index l.pair-items) ≡ map pair_with_profile l.pair-items)
