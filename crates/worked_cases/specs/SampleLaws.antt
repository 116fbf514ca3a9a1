-- What the sample data and their canonical forms satisfy.
use Rattle.std.specs.Prelude.{◌≡◌}
use Rattle.lotos_base.specs.Equation.{IsWellFormedData}
use Rattle.lotos_base.specs.Canon.{IsCanon}
use Rattle.lotos_base.specs.SmallData.{nought}
use Rattle.worked_cases.specs.BehaviourSamples.{sample_data, sample_canon, succ, one, two, truth, falsehood, less, sample_plus, nat}

-- The sample data are well formed, and the canonical forms are a canon of them. `2 + 1`, `1 lt 2` and
-- `2 lt 2` have their values, and `x lt 2` stays.
pub record SampleFormsAreACanon : Type 0 where
  pub well_formed : IsWellFormedData sample_data
  pub canon : IsCanon sample_data sample_canon
  pub two_and_one : sample_canon (sample_plus two one) ≡ succ (succ (succ nought))
  pub one_below_two : sample_canon (less one two) ≡ truth
  pub two_not_below_two : sample_canon (less two two) ≡ falsehood
  pub open_stays : sample_canon (less (nat 0) two) ≡ less (nat 0) two
