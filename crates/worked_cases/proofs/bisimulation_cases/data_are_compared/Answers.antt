use Rattle.std.proofs.Common.{◌≡◌, ℕ, List, [], ◌∷◌, codes, refl, ap, arith}
use Rattle.lotos_base.specs.Names.{folded}
use Rattle.certificate_theory.specs.SameData.{AreSameData}
use Rattle.worked_cases.specs.MenuCases.{two_constants}
use Rattle.worked_cases.specs.IdentityCases.{in_another_order}
use Rattle.worked_cases.proofs.bisimulation_cases.data_are_compared.Goals as goal

abbrev first_of : List ℕ → ℕ
first_of [] = 0
first_of (x ∷ xs) = x

-- `c` is not `d`.
not_the_same : AreSameData two_constants in_another_order → ⊥
not_the_same same =
    let name : folded (codes "c") ≡ folded (codes "d") = same.operations.0.name in
    let numbers : 99 ≡ 100 = ap first_of name in
    omega (arith, numbers)

pub returns : goal.returns
returns c = record {
  same = record {
    sorts = (refl, tt);
    operations = (
      record { name = refl; form = refl; arguments = refl; result = refl },
      (record { name = refl; form = refl; arguments = refl; result = refl }, tt),
    );
    equations = tt;
  };
  not_in_another_order = not_the_same;
}
