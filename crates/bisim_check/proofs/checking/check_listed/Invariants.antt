use Rattle.std.proofs.Common.{◌≡◌, ◌<◌, ℕ, Some, slice_get}
use Rattle.behaviour_semantics.specs.Behaviour.{Behaviour}
use Rattle.certificate_theory.specs.Certificate.{ListedPair}
use Rattle.certificate_theory.specs.MatchedPairs.{PairIsMatched}
use Rattle.menu_builder.specs.HandedOn.{KeepsData}
use Rattle.bisim_check.specs.Readings.{comparison_of, listed_pairs_in}
use Rattle.bisim_check.proofs.checking.check_listed.Given as goal

abbrev pub invariant-loop-number : goal.invariant-loop-number
invariant-loop-number g l = record {
  matched : (b c : Behaviour) (k : ℕ) (pair : ListedPair) → k < l.number → slice_get (listed_pairs_in l.reading) k ≡ Some pair
      → PairIsMatched (comparison_of (g.D.Deciding.known_data l.fn.data) (g.D.Deciding.canon l.fn.data) l.left l.right b c)
      (listed_pairs_in l.reading) pair;
  same_known : KeepsData g.D.Deciding.known_data g.D.Deciding.canon l.fn.data l.data;
}
