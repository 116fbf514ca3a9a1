-- Images in an actualisation that coincide.
use Rattle.std.proofs.Common.{◌≡◌, inl, inr, ◌<◌, ℕ, zero, suc, true, false, ◌&&◌, if◌then◌else◌, nat_eq, List, [], ◌∷◌, ◌++◌, map, take, Option, None, Some, refl, ap, sym, ◌∙◌, subst, arith, slice_get, append_assoc, append-nil}
use Rattle.std.specs.List.{list_any}
use Rattle.std.specs.Str.{bytes_eq}
use Rattle.std.proofs.lemmas.Option.{same_Some, none-some}
use Rattle.lotos_base.specs.Equation.{Equation}
use Rattle.lotos_base.specs.Names.{AreOneName, folded}
use Rattle.lotos_base.specs.Signature.{Sort, Operation}
use Rattle.lotos_base.specs.Tests.{term_eq}
use Rattle.lotos_base.specs.Twins.{form_eq}
use Rattle.syntax_trees.specs.WrittenItem.{WrittenPair, WrittenPairs}
use Rattle.type_definitions.specs.TypeFault.{TypeFault, double_operation}
use Rattle.type_definitions.specs.Presentation.{is_marked_number, is_same_place, is_same_equation, first_position}
use Rattle.type_definitions.specs.Images.{operation_image}
use Rattle.type_definitions.specs.Union.{Mentioned, operation_place_in}
use Rattle.type_definitions.specs.Renaming.{pair_for, operation_under}
use Rattle.type_definitions.specs.Actualisation.{Actualising, formal_operations_of, pair_unless, operation_renamer, actual_sort, actualised_sort, sort_becomes, actualised_operation, operation_becomes, actualised_operations, actualised_equations, other_operation_image}
use Rattle.type_definitions.specs.ActualisationFaults.{at_pair, coming_operations, there_already, actualising_of, actualisation_fault}
use Rattle.type_flatten.specs.FirstCause.{IsNowhere, OrElse, FirstAlong, at_once, further_on}
use Rattle.type_flatten.specs.FaultCauses.{Cause}
use Rattle.type_flatten.specs.ActualisationCauses.{OperationsClash, Clashes, ActualisationBrings}
use Rattle.type_flatten.specs.CoincidingImages.{HaveOneActual, AreAlikeButForSorts, coming_of, image_of, PairsMakeOne, CoincidingImagesAreDecided}
use Rattle.type_flatten.proofs.ActualisationCauseLemmas.{actualisations_faulty}

-- ---- Pairs by the name

pair_same : (pairs : List WrittenPair) (one other : List ℕ) → AreOneName one other → pair_for pairs one ≡ pair_for pairs other
pair_same [] one other same = refl
pair_same (pair ∷ pairs) one other same =
    let rest = pair_same pairs one other same in
    (λ i. if bytes_eq (folded pair.replaced.name) (same i) then Some pair else rest i)

renamer_same : (a : Actualising) (one other : Operation) → AreOneName one.name other.name
    → operation_renamer a one ≡ operation_renamer a other
renamer_same a one other same =
    let pairs = pair_same a.pairs.operation_pairs one.name other.name same in
    (λ i.
    pair_unless (list_any (λ (o : Operation). bytes_eq (folded o.name) (same i)) (formal_operations_of a.base.presentation)) (pairs i))

-- ---- Operations that are alike

record AreAlike (one other : Operation) : Type 0 where
  pub named : AreOneName one.name other.name
  pub formed : one.form ≡ other.form
  pub arguments : one.arguments ≡ other.arguments
  pub result : one.result ≡ other.result
  pub origin : AreOneName one.origin other.origin

alike_under : (type_name : List ℕ) (pair : Option WrittenPair) (one other : Operation) → AreAlike one other
    → AreAlike (operation_under type_name pair one) (operation_under type_name pair other)
alike_under type_name None one other alike = alike
alike_under type_name (Some pair) one other alike =
    record { named = refl; formed = alike.formed; arguments = alike.arguments; result = alike.result; origin = refl }

alike_in : (operations : List Operation) (one other : Operation) → AreAlike one other
    → operation_place_in operations (Some one) ≡ operation_place_in operations (Some other)
alike_in operations one other alike =
    (λ i.
    first_position
    (λ (o : Operation).
    ((bytes_eq (alike.named i) (folded o.name) && form_eq (alike.formed i) o.form)
    && (bytes_eq (alike.arguments i) o.arguments && nat_eq (alike.result i) o.result))
    && bytes_eq (alike.origin i) (folded o.origin))
    operations)

module _ (a : Actualising) where
  images_alike : (i j : ℕ) (alike : AreAlikeButForSorts a i j)
      → AreAlike (other_operation_image a alike.one) (other_operation_image a alike.other)
  images_alike i j alike =
      subst
      (λ (pair : Option WrittenPair).
      AreAlike (other_operation_image a alike.one)
      (operation_under a.type_name pair (operation_image (actualised_sort a) alike.other)))
      (renamer_same a alike.one alike.other alike.named)
      (alike_under a.type_name (operation_renamer a alike.one) (operation_image (actualised_sort a) alike.one)
      (operation_image (actualised_sort a) alike.other)
      (record {
        named = alike.named;
        formed = alike.formed;
        arguments = alike.arguments;
        result = alike.result;
        origin = alike.origin;
      }))

  operation_at : (i : ℕ) (operation : Operation) → slice_get a.base.presentation.signature.operations i ≡ Some operation
      → is_marked_number a.base.presentation.formal_operations i ≡ false
      → actualised_operation a i ≡ operation_place_in (actualised_operations a) (Some (other_operation_image a operation))
  operation_at i operation there other = ap (λ (found : Option Operation). operation_becomes a i found) there ∙ (rw other refl)

  formal_sort_at : (i : ℕ) (sort : Sort) → slice_get a.base.presentation.signature.sorts i ≡ Some sort
      → is_marked_number a.base.presentation.formal_sorts i ≡ true → actualised_sort a i ≡ actual_sort a sort
  formal_sort_at i sort there formal = ap (λ (found : Option Sort). sort_becomes a i found) there ∙ (rw formal refl)

  sorts_one : (i j : ℕ) → HaveOneActual a i j → actualised_sort a i ≡ actualised_sort a j
  sorts_one i j two =
      formal_sort_at i two.one two.here two.formal
      ∙ (λ k. first_position (λ (s : Sort). bytes_eq (folded s.name) (two.same k)) a.actual.signature.sorts)
      ∙ sym (formal_sort_at j two.other two.there two.formal_too)

  operations_one : (i j : ℕ) (alike : AreAlikeButForSorts a i j)
      → (actualised_operation a i ≡ actualised_operation a j) × (¬ OperationsClash (coming_of a alike.other) (coming_of a alike.one))
  operations_one i j alike = (
    operation_at i alike.one alike.here alike.not_formal
        ∙ alike_in (actualised_operations a) (other_operation_image a alike.one) (other_operation_image a alike.other)
        (images_alike i j alike)
        ∙ sym (operation_at j alike.other alike.there alike.not_formal_too),
    none,
  )
    where
      none : OperationsClash (coming_of a alike.other) (coming_of a alike.one) → ⊥
      none (same, inl origins) = origins (sym (images_alike i j alike).origin)
      none (same, inr two) =
          let one : two.second ≡ two.first =
          same_Some two.second two.first
          (sym two.made_too ∙ renamer_same a alike.one alike.other alike.named ∙ two.made) in
          two.apart (ap (λ (pair : WrittenPair). pair.place) (sym one))

  equations_one : (one other : Equation) → one.place ≡ other.place → (image_of a one).left ≡ (image_of a other).left
      → (image_of a one).right ≡ (image_of a other).right
      → first_position (is_same_equation (image_of a one)) (actualised_equations a)
      ≡ first_position (is_same_equation (image_of a other)) (actualised_equations a)
  equations_one one other place left right =
      (λ i.
      first_position
      (λ (e : Equation). is_same_place (place i) e.place && (term_eq (left i) e.left && term_eq (right i) e.right))
      (actualised_equations a))

  -- ---- Two pairs

  taken : {A : Type 0} (xs : List A) (i j : ℕ) (x : A) → i < j → slice_get xs i ≡ Some x → slice_get (take j xs) i ≡ Some x
  taken [] i j x less at = absurd (cc at)
  taken (y ∷ ys) i zero x less at = absurd (omega (arith, less))
  taken (y ∷ ys) zero (suc j) x less at = at
  taken (y ∷ ys) (suc i) (suc j) x less at = taken ys i j x (omega (arith, less)) at

  behind : {A : Type 0} (xs ys : List A) (i : ℕ) (x : A) → slice_get ys i ≡ Some x
      → (k : ℕ) × (slice_get (xs ++ ys) k ≡ Some x)
  behind [] ys i x at = (i, at)
  behind (z ∷ xs) ys i x at = let further = behind xs ys i x at in (suc further.0, further.1)

  pairs_clash : (two : PairsMakeOne a)
      → Clashes a OperationsClash double_operation
      (map there_already a.actual.signature.operations ++ take two.j (coming_operations a)) two.other
      (double_operation two.later.place two.later.given)
  pairs_clash two =
      let at = behind (map there_already a.actual.signature.operations) (take two.j (coming_operations a)) two.i two.one
      (taken (coming_operations a) two.i two.j two.one two.before two.here) in (
        sym (ap (λ (pair : Option WrittenPair). at_pair pair a.base.at double_operation) two.made_too),
        (
          at.0,
          two.one,
          at.1,
          (
            two.same,
            inr (record { first = two.later; second = two.earlier; made = two.made_too; made_too = two.made; apart = two.apart }),
          ),
        ),
      )

  -- what has no first cause on a way that grows has none at any step
  nowhere_grown : {A : Type 0} (Is : List A → A → Cause) (earlier xs : List A)
      → IsNowhere (FirstAlong Is (λ (before : List A) (x : A). before ++ x ∷ []) earlier xs) → (j : ℕ) (x : A) → slice_get xs j ≡ Some x
      → IsNowhere (Is (earlier ++ take j xs) x)
  nowhere_grown Is earlier [] none j x at = absurd (cc at)
  nowhere_grown {A = A} Is earlier (y ∷ ys) none zero x at =
      let here : IsNowhere (Is earlier y) = (λ fault is. none fault (at_once is)) in
      subst (λ (before : List A). IsNowhere (Is before x)) (sym (append-nil earlier))
      (subst (λ (z : A). IsNowhere (Is earlier z)) (same_Some y x at) here)
  nowhere_grown {A = A} Is earlier (y ∷ ys) none (suc j) x at =
      let here : IsNowhere (Is earlier y) = (λ fault is. none fault (at_once is)) in
      subst (λ (before : List A). IsNowhere (Is before x)) (append_assoc earlier (y ∷ []) (take j ys))
      (nowhere_grown Is (earlier ++ y ∷ []) ys (λ fault more. none fault (further_on here more)) j x at)

neither : (One Other : Cause) → IsNowhere (OrElse One Other) → IsNowhere One × IsNowhere Other
neither One Other none = (
  λ fault is. none fault (inl is),
  λ fault is. none fault (inr ((λ other one. none other (inl one)), is)),
)

pairs_refused : (base : Mentioned) (actuals : List Mentioned) (type_name : List ℕ) (pairs : WrittenPairs)
    → PairsMakeOne (actualising_of base actuals type_name pairs)
    → (fault : TypeFault) × ActualisationBrings base actuals type_name pairs fault
pairs_refused base actuals type_name pairs two = by (actualisation_fault base actuals type_name pairs) refl
  where
    none : IsNowhere (ActualisationBrings base actuals type_name pairs) → ⊥
    none nowhere =
        let of_base = neither _ _ nowhere in
        let of_union = neither _ _ of_base.1 in
        let of_sort_pairs = neither _ _ of_union.1 in
        let of_operation_pairs = neither _ _ of_sort_pairs.1 in
        let of_sorts = neither _ _ of_operation_pairs.1 in
        let of_operations = neither _ _ of_sorts.1 in
        let of_coming_sorts = neither _ _ of_operations.1 in
        let of_coming_operations = neither _ _ of_coming_sorts.1 in
        nowhere_grown (actualising_of base actuals type_name pairs)
        (Clashes (actualising_of base actuals type_name pairs) OperationsClash double_operation)
        (map there_already (actualising_of base actuals type_name pairs).actual.signature.operations)
        (coming_operations (actualising_of base actuals type_name pairs)) of_coming_operations.0 two.j two.other two.there
        (double_operation two.later.place two.later.given) (pairs_clash (actualising_of base actuals type_name pairs) two)

    by : (found : Option TypeFault) → actualisation_fault base actuals type_name pairs ≡ found
        → (fault : TypeFault) × ActualisationBrings base actuals type_name pairs fault
    by (Some fault) e = (fault, (actualisations_faulty base actuals type_name pairs fault).0 e)
    by None e =
        absurd (none (λ fault is.
        none-some fault (sym e ∙ (actualisations_faulty base actuals type_name pairs fault).1 is)))

pub coinciding_images : CoincidingImagesAreDecided
coinciding_images = record {
  sorts = sorts_one;
  operations = operations_one;
  equations = equations_one;
  pairs = pairs_clash;
  refused = pairs_refused;
}
