-- What an actualisation has.
use Rattle.std.proofs.Common.{◌≡◌, ℕ, zero, suc, ◌+◌, Bool, true, false, List, [], ◌∷◌, map, refl, ap, sym, ◌∙◌, subst, arith}
use Rattle.std.specs.Prelude.{Option, Some, slice_get, if◌then◌else◌}
use Rattle.std.proofs.lemmas.Option.{none-some}
use Rattle.type_actualisation.proofs.MapLemmas.{image_there}
use Rattle.lotos_base.specs.Signature.{Sort, Operation}
use Rattle.lotos_base.specs.Equation.{Equation}
use Rattle.type_definitions.specs.Images.{equation_image}
use Rattle.type_definitions.specs.Presentation.{is_same_equation, is_marked_number, first_position}
use Rattle.type_definitions.specs.Union.{sort_place_in, operation_place_in}
use Rattle.type_definitions.specs.UnionLaws.{IsIn}
use Rattle.type_definitions.proofs.WithNewLemmas.{first_appearances}
use Rattle.type_definitions.specs.Actualisation.{Actualising, actualised_sorts, actualised_operations, actualised_equations, actualised_sort, actualised_operation, actual_sort, actual_operation, sort_becomes, operation_becomes, other_sort_image, other_operation_image, other_sorts_of, other_operations_of, unmarked_from}
use Rattle.type_flatten.specs.PartsOfActualisations.{ActualisationsContain}

-- a member that is not marked is among the others
is_other : {A : Type 0} (marks : List ℕ) (number : ℕ) (xs : List A) (i n : ℕ) (x : A) → slice_get xs i ≡ Some x → n ≡ number + i
    → is_marked_number marks n ≡ false → IsIn (unmarked_from marks number xs) x
is_other marks number [] i n x found at plain = absurd (none-some x found)
is_other marks number (z ∷ xs) zero n x found at plain =
    let here : n ≡ number = omega (arith, at) in
    let is : is_marked_number marks number ≡ false = ap (λ (k : ℕ). is_marked_number marks k) (sym here) ∙ plain in
    subst (λ (b : Bool). IsIn (if b then unmarked_from marks (suc number) xs else z ∷ unmarked_from marks (suc number) xs) x) (sym is)
    (0, found)
is_other {A = A} marks number (z ∷ xs) (suc i) n x found at plain =
    go (is_marked_number marks number) (is_other marks (suc number) xs i n x found (omega (arith, at)) plain)
  where
    go : (b : Bool) → IsIn (unmarked_from marks (suc number) xs) x
        → IsIn (if b then unmarked_from marks (suc number) xs else z ∷ unmarked_from marks (suc number) xs) x
    go true there = there
    go false there = (suc there.0, there.1)

unmarked : {A : Type 0} (b : Bool) (one other : A) → b ≡ false → (if b then one else other) ≡ other
unmarked true one other h = cc
unmarked false one other h = refl

-- the new number of a sort that is not formal
sort_number : (a : Actualising) (i : ℕ) (s : Sort) → slice_get a.base.presentation.signature.sorts i ≡ Some s
    → is_marked_number a.base.presentation.formal_sorts i ≡ false
    → actualised_sort a i ≡ sort_place_in (actualised_sorts a) (Some (other_sort_image a s))
sort_number a i s found plain =
    ap (λ (o : Option Sort). sort_becomes a i o) found
    ∙ unmarked (is_marked_number a.base.presentation.formal_sorts i) (actual_sort a s)
    (sort_place_in (actualised_sorts a) (Some (other_sort_image a s))) plain

operation_number : (a : Actualising) (i : ℕ) (o : Operation) → slice_get a.base.presentation.signature.operations i ≡ Some o
    → is_marked_number a.base.presentation.formal_operations i ≡ false
    → actualised_operation a i ≡ operation_place_in (actualised_operations a) (Some (other_operation_image a o))
operation_number a i o found plain =
    ap (λ (x : Option Operation). operation_becomes a i x) found
    ∙ unmarked (is_marked_number a.base.presentation.formal_operations i) (actual_operation a o)
    (operation_place_in (actualised_operations a) (Some (other_operation_image a o))) plain

pub actualisations : ActualisationsContain
actualisations = record {
  actual_stays = λ a. record {
    sorts = λ i s found.
        first_appearances.sorts.stays a.actual.signature.sorts (map (other_sort_image a) (other_sorts_of a.base.presentation)) i s found;
    operations = λ i o found.
        first_appearances.operations.stays a.actual.signature.operations
        (map (other_operation_image a) (other_operations_of a.base.presentation)) i o found;
    equations = λ i e found.
        first_appearances.equations.stays a.actual.equations
        (map (equation_image (actualised_sort a) (actualised_operation a)) a.base.presentation.equations) i e found;
    formal_sorts = λ n h. h;
    formal_operations = λ n h. h;
  };
  formal_sorts = λ a. refl;
  formal_operations = λ a. refl;
  sorts_come = λ a i s found plain.
      let at =
      first_appearances.sorts.comes a.actual.signature.sorts (map (other_sort_image a) (other_sorts_of a.base.presentation))
      (other_sort_image a s)
      (image_there (other_sort_image a) (other_sorts_of a.base.presentation) s
      (is_other a.base.presentation.formal_sorts 0 a.base.presentation.signature.sorts i i s found (omega arith) plain)) in
      let there : slice_get (actualised_sorts a) (actualised_sort a i) ≡ Some at.0 =
      ap (λ (n : ℕ). slice_get (actualised_sorts a) n) (sort_number a i s found plain) ∙ at.1 in
      (at.0, there, at.2);
  operations_come = λ a i o found plain.
      let at =
      first_appearances.operations.comes a.actual.signature.operations
      (map (other_operation_image a) (other_operations_of a.base.presentation)) (other_operation_image a o)
      (image_there (other_operation_image a) (other_operations_of a.base.presentation) o
      (is_other a.base.presentation.formal_operations 0 a.base.presentation.signature.operations i i o found (omega arith) plain)) in
      let there : slice_get (actualised_operations a) (actualised_operation a i) ≡ Some at.0 =
      ap (λ (n : ℕ). slice_get (actualised_operations a) n) (operation_number a i o found plain) ∙ at.1 in
      (at.0, there, at.2);
  equations_come = λ a i e found.
      let image : Equation → Equation = equation_image (actualised_sort a) (actualised_operation a) in
      let at =
      first_appearances.equations.comes a.actual.equations (map image a.base.presentation.equations) (image e)
      (image_there image a.base.presentation.equations e (i, found)) in
      (at.0, first_position (is_same_equation (image e)) (actualised_equations a), at.1, at.2);
  no_other_sorts = λ a s at.
      first_appearances.sorts.adds_nothing a.actual.signature.sorts (map (other_sort_image a) (other_sorts_of a.base.presentation)) s at;
  no_other_operations = λ a o at.
      first_appearances.operations.adds_nothing a.actual.signature.operations
      (map (other_operation_image a) (other_operations_of a.base.presentation)) o at;
  no_other_equations = λ a e at.
      first_appearances.equations.adds_nothing a.actual.equations
      (map (equation_image (actualised_sort a) (actualised_operation a)) a.base.presentation.equations) e at;
}
