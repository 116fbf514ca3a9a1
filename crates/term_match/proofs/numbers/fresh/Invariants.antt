use Rattle.std.proofs.Common.{◌≡◌, ◌<◌, ◌++◌, ℕ, drop}
use Rattle.std.specs.Prelude.{Some, false, slice_get}
use Rattle.lotos_base.specs.Substitution.{is_listed}
use Rattle.term_match.specs.Numbers.{AreDistinctNumbers}
use Rattle.term_match.specs.Renumbering.{old_numbers, new_numbers}
use Rattle.term_match.proofs.numbers.fresh.Given as goal

abbrev pub invariant-loop-old : goal.invariant-loop-old
invariant-loop-old l = record {
  olds : old_numbers l.made.items ++ drop l.old-index l.olds ≡ l.olds;
  distinct : AreDistinctNumbers (new_numbers l.made.items);
  free : (i n : ℕ) → slice_get (new_numbers l.made.items) i ≡ Some n → is_listed l.taken n ≡ false;
  below : (i n : ℕ) → slice_get (new_numbers l.made.items) i ≡ Some n → n < l.next;
}
