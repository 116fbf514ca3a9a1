-- The small type is what its data are written as.
use Rattle.std.proofs.Common.{◌≡◌, inl, inr, ℕ, zero, suc, ◌+◌, ◌*◌, ◌^◌, ◌<◌, true, false, [], ◌∷◌, length, refl, subst, arith}
use Rattle.std.specs.Prelude.{Some, slice_get, codes}
use Rattle.std.specs.Fmt.{digits}
use Rattle.std.proofs.lemmas.Bool.{ltb-true}
use Rattle.std.proofs.lemmas.Option.{none-some, same_Some}
use Rattle.lotos_base.proofs.SignatureLemmas.{Decides-has_twin}
use Rattle.lotos_base.specs.Signature.{Operation, IsOperation, prefix_form, infix_form}
use Rattle.lotos_base.specs.Equation.{Variable, Equation, IsEquation, IsDeclared, IsEquationOver}
use Rattle.lotos_base.specs.Sorting.{Occurs}
use Rattle.lotos_base.specs.Term.{variable}
use Rattle.lotos_base.specs.Twins.{HasTwin, has_twin}
use Rattle.sort_terms.proofs.WellFormedLemmas.{well_formed_test}
use Rattle.session_laws.specs.WrittenAs.{no_mark}
use Rattle.flat_text.specs.FlatCases.{operation_called, applied_to_none, applied_to_one, x_of, equation_by_sides}
use Rattle.session_laws.specs.WrittenData.{AreSectionsWritten, StandApart}
use Rattle.session_laws.specs.DataLaws.{IsNumberedEquation, AreDataOfText}
use Rattle.session_laws.specs.WrittenExample.{constant_data, constant_equation, constant_sections, ConstantDataAreWritten}

abbrev v1 : Operation
v1 = operation_called (codes "V1") prefix_form [] 0

abbrev f : Operation
f = operation_called (codes "f") prefix_form (0 ∷ []) 0

abbrev e : Equation
e = equation_by_sides (x_of 0 ∷ []) (applied_to_one 1 (variable 0 0)) (applied_to_none 0)

no_twin : (o : Operation) → has_twin constant_data.signature o ≡ false → ¬ HasTwin constant_data.signature o
no_twin o none twin =
    let there : has_twin constant_data.signature o ≡ true = (Decides-has_twin constant_data.signature o).1 twin in
    cc

sections_written : AreSectionsWritten constant_data constant_sections
unfolding digits
sections_written = record {
  formal_sorts = refl;
  formal_operations = refl;
  formal_variables = refl;
  formal_groups = refl;
  sorts = (refl, tt);
  operations = (
    record { named = refl; formed = refl; arguments = tt; result = refl },
    (record { named = refl; formed = refl; arguments = (refl, tt); result = refl }, tt),
  );
  common_variables = refl;
  groups = (
    record {
      sorted = refl;
      variables = ((refl, refl), tt);
      one = constant_equation;
      alone = refl;
      is_written = record {
        premisses = refl;
        arrow = refl;
        left = (
          f,
          refl,
          record { named = refl; formed = refl; marked = no_mark (no_twin f refl) },
          (record { named = refl; formed = refl; unmarked = refl }, tt),
        );
        right = (v1, refl, record { named = refl; formed = refl; marked = no_mark (no_twin v1 refl) }, tt);
      };
    },
    tt,
  );
}

-- what holds of the one equation holds of each
of_each : (P : Equation → Type 0) → P e → (equation : Equation) → IsEquation constant_data equation → P equation
of_each P holds equation (zero, at) = subst P (same_Some e equation at) holds
of_each P holds equation (suc i, at) = absurd (none-some equation at)

over : IsEquationOver constant_data.signature e
over = record {
  sort = 0;
  left_sort = (f, refl, refl, ((refl, omega arith), tt));
  right_sort = (v1, refl, refl, tt);
  variable_sorts = sorts;
  numbers = numbers;
  left_declared = declared;
  right_declared = λ n s occurs. absurd occurs;
}
  where
    sorts : (n s : ℕ) → IsDeclared e n s → s < 1
    sorts n s (zero, v, at, _, is) = let same = same_Some (x_of 0) v at in let here : 0 ≡ s = cc in omega (arith, here)
    sorts n s (suc i, v, at, _, is) = absurd (none-some v at)

    numbers : (i j : ℕ) (v w : Variable) → slice_get e.variables i ≡ Some v → slice_get e.variables j ≡ Some w → v.number ≡ w.number
        → i ≡ j
    numbers zero zero v w at there same = refl
    numbers zero (suc j) v w at there same = absurd (none-some w there)
    numbers (suc i) j v w at there same = absurd (none-some v at)

    declared : (n s : ℕ) → Occurs n s e.left → IsDeclared e n s
    declared n s (inl is) = (0, x_of 0, refl, is.0, is.1)
    declared n s (inr none) = absurd none

by_appearance : IsNumberedEquation e
by_appearance = record { declared = (refl, tt); appearing = before }
  where
    before : (i n m : ℕ) → slice_get (0 ∷ []) i ≡ Some n → m < n → (j : ℕ) × (j < i) × (slice_get (0 ∷ []) j ≡ Some m)
    before zero n m at less = let same : 0 ≡ n = same_Some 0 n at in absurd (omega (arith, same, less))
    before (suc i) n m at less = absurd (none-some n at)

form : AreDataOfText constant_data
form = record {
  well_formed = record {
    signature = well_formed_test constant_data.signature refl;
    equations = of_each (IsEquationOver constant_data.signature) over;
  };
  infix_operations = no_infix;
  equations = of_each IsNumberedEquation by_appearance;
  limits = record {
    sorts = omega arith;
    operations = omega arith;
    equations = omega arith;
    variables = of_each (λ (equation : Equation). 1 + length equation.variables * 3 < 2 ^ 64) (ltb-true 4 (2 ^ 64) refl);
  };
}
  where
    no_infix : (k : ℕ) (o : Operation) → IsOperation constant_data.signature k o → o.form ≡ infix_form → length o.arguments ≡ 2
    no_infix zero o at is = let same : v1 ≡ o = same_Some v1 o at in cc
    no_infix (suc zero) o at is = let same : f ≡ o = same_Some f o at in cc
    no_infix (suc (suc k)) o at is = absurd (none-some o at)

one_alone : StandApart (constant_equation ∷ [])
one_alone zero zero one other at there same = refl
one_alone zero (suc j) one other at there same = absurd (none-some other there)
one_alone (suc i) j one other at there same = absurd (none-some one at)

pub constant_data_are_written : ConstantDataAreWritten
unfolding digits
constant_data_are_written = record { text = refl; is_written = (refl, (refl, sections_written)); form = form; apart = one_alone }
