use Rattle.std.proofs.Common.{◌≡◌, ◌<◌, ℕ, length, Some, slice_get}
use Rattle.certificate_theory.specs.Certificate.{ListedPair}
use Rattle.path_order.specs.HeadIndexView.{numbers_at}
use Rattle.bisim_check.specs.PairIndex.{bucket_of, IsFiled}
use Rattle.bisim_check.specs.Readings.{listed_pairs_in}
use Rattle.bisim_check.proofs.pair_index.pair_index.Given as goal

abbrev pub invariant-loop-number : goal.invariant-loop-number
invariant-loop-number l = record {
  filed : (k : ℕ) (pair : ListedPair) → k < l.number → slice_get (listed_pairs_in l.reading) k ≡ Some pair
      → IsFiled k (numbers_at l.made (bucket_of pair.left pair.right));
  room : length l.made.numbers.items ≡ 65536;
}
