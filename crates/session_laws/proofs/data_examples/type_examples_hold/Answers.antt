use Rattle.std.proofs.Common.{◌≡◌, ℕ, refl, arith}
use Rattle.std.specs.Fmt.{digits}
use Rattle.session_laws.proofs.data_examples.type_examples_hold.Goals as goal

none_one : ◌≡◌ {A = ℕ} 0 1 → ⊥
none_one same = omega (arith, same)

pub returns : goal.returns
unfolding digits
returns c = record {
  none = refl;
  spellings = refl;
  kinds = refl;
  careful = refl;
  twice = λ apart. none_one (apart 0 1 _ _ refl refl refl);
}
