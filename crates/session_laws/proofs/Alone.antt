-- The union of one presentation alone is this presentation, if its data are well formed and no two equations stand at one place.
use Rattle.std.proofs.Common.{◌≡◌, ℕ, ◌<◌, Bool, true, false, List, [], ◌∷◌, ◌++◌, map, length, append_assoc, if◌then◌else◌, refl, ap, sym, ◌∙◌, subst, arith}
use Rattle.std.specs.Prelude.{Some, slice_get, ◌&&◌, nat_eq}
use Rattle.std.proofs.lemmas.Bool.{and_parts, eqb-true}
use Rattle.std.specs.List.{list_any}
use Rattle.std.proofs.lemmas.List.{append-nil}
use Rattle.std.proofs.lemmas.Option.{slice_get_within}
use Rattle.lotos_base.proofs.Members.{at_end, at_front, map_same, member_at}
use Rattle.lotos_base.proofs.Tests.{list_any-at}
use Rattle.lotos_base.specs.Signature.{Signature, Operation, IsOperation, IsSort}
use Rattle.lotos_base.specs.Equation.{Place, Variable, Equation, IsEquationOver, IsWellFormedData}
use Rattle.lotos_base.specs.Sorting.{HasSort, HaveSorts}
use Rattle.lotos_base.specs.Tests.{term_eq}
use Rattle.lotos_base.specs.Term.{Term, Terms, variable, node, no_terms, term_then}
use Rattle.type_definitions.specs.Images.{operation_image, term_image, terms_image, variable_image, equation_image}
use Rattle.type_definitions.specs.Presentation.{Presentation, nothing, with_new, is_same_operation, is_same_equation, is_same_place}
use Rattle.type_definitions.specs.Union.{joined_presentation, joined_sort, joined_operation, joined_equations}
use Rattle.type_definitions.specs.Flattened.{flattened_data_of}
use Rattle.type_flatten.proofs.ContainmentLemmas.{second_lies}
use Rattle.type_flatten.proofs.ContributionLemmas.{contributions}
use Rattle.type_flatten.proofs.OneToOneLemmas.{AreAlike, sort_name, same_operation}

-- no two equations stand at one place
abbrev pub PlacesDiffer : List Equation → Type 0
PlacesDiffer equations = (i j : ℕ) (one other : Equation) → slice_get equations i ≡ Some one → slice_get equations j ≡ Some other
    → one.place ≡ other.place → i ≡ j

abbrev placed : ℕ → ℕ → ℕ → Place
placed text line column = record { text = text; line = line; column = column }

same_place : (one other : Place) → is_same_place one other ≡ true → one ≡ other
same_place one other h =
    let first = and_parts (nat_eq one.text other.text) (nat_eq one.line other.line && nat_eq one.column other.column) h in
    let second = and_parts (nat_eq one.line other.line) (nat_eq one.column other.column) first.1 in
    by one.text one.line one.column (eqb-true one.text other.text first.0) (eqb-true one.line other.line second.0)
    (eqb-true one.column other.column second.1)
  where
    by : (text line column : ℕ) → text ≡ other.text → line ≡ other.line → column ≡ other.column
        → placed text line column ≡ placed other.text other.line other.column
    by text line column e f g = cc (e, f, g)

-- an equation that stands elsewhere is none of those before it
none_before : (kept : List Equation) (e : Equation) (rest : List Equation) → PlacesDiffer (kept ++ e ∷ rest)
    → list_any (is_same_equation e) kept ≡ false
none_before kept e rest differ = by (list_any (is_same_equation e) kept) refl
  where
    by : (b : Bool) → list_any (is_same_equation e) kept ≡ b → b ≡ false
    by false is = refl
    by true is =
        let at = list_any-at (is_same_equation e) kept is in
        let parts = and_parts (is_same_place e.place at.1.place) (term_eq e.left at.1.left && term_eq e.right at.1.right) at.3 in
        let one = differ (length kept) at.0 e at.1 (at_end kept e rest) (at_front kept (e ∷ rest) at.0 at.1 at.2)
        (same_place e.place at.1.place parts.0) in
        let within : at.0 < length kept = slice_get_within kept at.0 at.1 at.2 in
        absurd (omega (arith, one, within))

all_kept : (kept rest : List Equation) → PlacesDiffer (kept ++ rest) → with_new is_same_equation kept rest ≡ kept ++ rest
all_kept kept [] differ = sym (append-nil kept)
all_kept kept (e ∷ rest) differ =
    let grouped : (kept ++ e ∷ []) ++ rest ≡ kept ++ e ∷ rest = append_assoc kept (e ∷ []) rest in
    ap (λ (b : Bool). with_new is_same_equation (if b then kept else kept ++ e ∷ []) rest) (none_before kept e rest differ)
    ∙ all_kept (kept ++ e ∷ []) rest (subst PlacesDiffer (sym grouped) differ) ∙ grouped

abbrev equation_with : Place → List Variable → Term → Term → Equation
equation_with place variables left right = record { place = place; variables = variables; left = left; right = right }

abbrev anywhere : Place
anywhere = placed 0 0 0

module _ (q : Presentation) (fine : IsWellFormedData (flattened_data_of q)) where
  abbrev to_sort : ℕ → ℕ
  to_sort = joined_sort nothing q

  abbrev to_operation : ℕ → ℕ
  to_operation = joined_operation nothing q

  -- its sorts and operations are those of the union
  members_stay : (joined_presentation nothing q).signature ≡ q.signature
  members_stay = contributions.alone (record { at = record { place = anywhere; name = [] }; presentation = q }) fine.signature

  sort_stays : (s : ℕ) → IsSort q.signature s → to_sort s ≡ s
  sort_stays s known =
      let there = member_at q.signature.sorts s known in
      let at = (second_lies nothing q).sorts s there.0 there.1 in
      let found = ap (λ (members : Signature). slice_get members.sorts (to_sort s)) (sym members_stay) ∙ at.1 in
      sym (fine.signature.sort_names s (to_sort s) there.0 at.0 there.1 found (sort_name there.0 at.0 at.2))

  abbrev over : Operation → List ℕ → ℕ → Operation
  over o arguments result =
      record { name = o.name; form = o.form; arguments = arguments; result = result; origin = o.origin }

  image_stays : (f : ℕ) (o : Operation) → IsOperation q.signature f o → operation_image to_sort o ≡ o
  image_stays f o found =
      ap (λ (sorts : List ℕ). over o sorts (to_sort o.result))
      (map_same to_sort o.arguments (λ i s there. sort_stays s (fine.signature.arguments f i s o found there)))
      ∙ ap (λ (sort : ℕ). over o o.arguments sort) (sort_stays o.result (fine.signature.results f o found))

  operation_number_stays : (f : ℕ) (o : Operation) → IsOperation q.signature f o → to_operation f ≡ f
  operation_number_stays f o found =
      let at = (second_lies nothing q).operations f o found in
      let there = ap (λ (members : Signature). slice_get members.operations (to_operation f)) (sym members_stay) ∙ at.1 in
      let same : is_same_operation o at.0 ≡ true =
      ap (λ (p : Operation). is_same_operation p at.0) (sym (image_stays f o found)) ∙ at.2 in
      let alike : AreAlike o at.0 = same_operation o at.0 same in
      sym (fine.signature.profiles f (to_operation f) o at.0 found there alike.name alike.form alike.arguments alike.result)

  mutual
    term_stays : (t : Term) (s : ℕ) → HasSort q.signature t s → term_image to_sort to_operation t ≡ t
    term_stays (variable n r) s sorted = ap (λ (m : ℕ). variable n m) (sort_stays r sorted.1)
    term_stays (node f ts) s sorted =
        ap (λ (g : ℕ). node g (terms_image to_sort to_operation ts)) (operation_number_stays f sorted.0 sorted.1)
        ∙ ap (λ (us : Terms). node f us) (terms_stay ts sorted.0.arguments sorted.3)

    terms_stay : (ts : Terms) (ss : List ℕ) → HaveSorts q.signature ts ss → terms_image to_sort to_operation ts ≡ ts
    terms_stay no_terms ss sorted = refl
    terms_stay (term_then t ts) [] sorted = absurd sorted
    terms_stay (term_then t ts) (s ∷ ss) sorted =
        ap (λ (u : Term). term_then u (terms_image to_sort to_operation ts)) (term_stays t s sorted.0)
        ∙ ap (λ (us : Terms). term_then t us) (terms_stay ts ss sorted.1)

  abbrev moved : Variable → ℕ → Variable
  moved v s = record { name = v.name; number = v.number; sort = s }

  variables_stay : (e : Equation) → IsEquationOver q.signature e → map (variable_image to_sort) e.variables ≡ e.variables
  variables_stay e over =
      map_same (variable_image to_sort) e.variables (λ i v at.
      ap (λ (s : ℕ). moved v s) (sort_stays v.sort (over.variable_sorts v.number v.sort (i, v, at, refl, refl))))

  equation_stays : (e : Equation) → IsEquationOver q.signature e → equation_image to_sort to_operation e ≡ e
  equation_stays e over = by (map (variable_image to_sort) e.variables) (term_image to_sort to_operation e.left)
      (term_image to_sort to_operation e.right) (variables_stay e over) (term_stays e.left over.sort over.left_sort)
      (term_stays e.right over.sort over.right_sort)
    where
      by : (variables : List Variable) (left right : Term) → variables ≡ e.variables → left ≡ e.left → right ≡ e.right
          → equation_with e.place variables left right ≡ equation_with e.place e.variables e.left e.right
      by variables left right f g h = cc (f, g, h)

  pub equations_alone : PlacesDiffer q.equations → joined_equations nothing q ≡ q.equations
  equations_alone differ =
      let images : map (equation_image to_sort to_operation) q.equations ≡ q.equations =
      map_same (equation_image to_sort to_operation) q.equations (λ i e at. equation_stays e (fine.equations e (i, at))) in
      ap (λ (es : List Equation). with_new is_same_equation [] es) images
      ∙ all_kept [] q.equations differ
