use Rattle.std.proofs.Common.{◌≡◌, ◌<◌, ℕ, Some, slice_get}
use Rattle.behaviour_tree.specs.StateView.{state_of}
use Rattle.bisim_check.specs.PairIndex.{PairStandsAt}
use Rattle.bisim_check.specs.Readings.{listed_pairs_in}
use Rattle.bisim_check.proofs.matching.is_listed.Given as goal

abbrev pub invariant-loop-number : goal.invariant-loop-number
invariant-loop-number l =
    (k number : ℕ) → k < l.number-index → slice_get l.number-items k ≡ Some number
    → PairStandsAt (listed_pairs_in l.reading) (state_of l.left) (state_of l.right) number → ⊥
