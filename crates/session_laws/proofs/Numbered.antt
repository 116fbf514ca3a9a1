-- The equations of flattened data have their variables numbered by first appearance.
use Rattle.std.proofs.Common.{◌≡◌, ℕ, suc, Bool, true, false, List, [], ◌∷◌, ◌++◌, map, inl, inr, refl, ap, sym, ◌∙◌, subst}
use Rattle.std.specs.Prelude.{Option, Some, slice_get, fold, nat_eq, if◌then◌else◌}
use Rattle.std.proofs.lemmas.Bool.{eq-eqb, or_left, or_right}
use Rattle.std.proofs.lemmas.Option.{none-some}
use Rattle.lotos_base.proofs.Members.{from_map, before_or_last}
use Rattle.lotos_base.specs.WrittenTerm.{PlacedName}
use Rattle.lotos_base.specs.Equation.{Variable, Equation, Data}
use Rattle.lotos_base.specs.Term.{Term, Terms, variable, node, no_terms, term_then}
use Rattle.rewriting_theory.specs.Numbering.{variable_numbers, all_variable_numbers, IsByAppearance}
use Rattle.syntax_trees.specs.WrittenItem.{WrittenTypeBody, WrittenSections, extends, renames, actualises}
use Rattle.sort_terms.specs.ReadingOutcome.{one_name}
use Rattle.type_definitions.specs.DeclaredTypes.{DeclaredType}
use Rattle.type_definitions.specs.TypeGraph.{is_among}
use Rattle.type_definitions.specs.Images.{term_image, terms_image, variable_image, equation_image}
use Rattle.type_definitions.specs.Presentation.{Presentation, nothing, with_new, is_same_equation}
use Rattle.type_definitions.specs.Union.{Mentioned, joined_sort, joined_operation, with_mentioned, union_of}
use Rattle.type_definitions.specs.UnionLaws.{IsIn}
use Rattle.type_definitions.specs.Declarations.{sort_numbered, with_sort, with_operation, with_formal_sorts, with_sorts, with_formal_operations, with_declarations}
use Rattle.type_definitions.specs.DeclaredEquations as declared
use Rattle.type_definitions.specs.DeclaredEquations.{AskedEquation, EquationQuestion, own_asked, scope_of, equation_of_sides, appearing, declared_as, declared_from, GivesPresentation, sort_is_there, formal_is_read, own_is_read, GiveAll, none_asked, next_gives, IsSide}
use Rattle.type_definitions.specs.Extension.{extended, asked_of}
use Rattle.type_definitions.specs.Actualisation.{Actualising, actualisation, actualised_sort, actualised_operation}
use Rattle.type_definitions.specs.ActualisationFaults.{actualising_of}
use Rattle.type_definitions.specs.Flattened.{presentation_named, mention_of, mentions_with, IsPresentation, ArePresented, all_presented, next_presented, declared_with, without_formals, types_at}
use Rattle.type_definitions.proofs.NumberLists.{among_cases, among_none}
use Rattle.type_definitions.proofs.WithNewLemmas.{first_appearances}
use Rattle.type_flatten.proofs.HandedOn.{in_scope, occurs_numbered, adds_nothing, scopes_numbered, side_reads}
use Rattle.type_flatten.proofs.ContributionLemmas.{contributions}
use Rattle.type_flatten.specs.EquationVariables.{EquationsNumberByAppearance}
use Rattle.session_laws.specs.Meanings.{AreInRow}
use Rattle.session_laws.specs.DataLaws.{IsNumberedEquation, FlattenedEquationsAreNumbered}

abbrev AreNumbered : List Equation → Type 0
AreNumbered equations = (i : ℕ) (e : Equation) → slice_get equations i ≡ Some e → IsNumberedEquation e

-- each of the types has such equations
abbrev AllNumbered : List Mentioned → Type 0
AllNumbered all = (i : ℕ) (m : Mentioned) → slice_get all i ≡ Some m → AreNumbered m.presentation.equations

none_numbered : AreNumbered []
none_numbered i e at = absurd (none-some e at)

-- ---- Images

mutual
  same_numbers : (to_sort to_operation : ℕ → ℕ) (t : Term) → variable_numbers (term_image to_sort to_operation t) ≡ variable_numbers t
  same_numbers to_sort to_operation (variable n s) = refl
  same_numbers to_sort to_operation (node f ts) = all_same_numbers to_sort to_operation ts

  all_same_numbers : (to_sort to_operation : ℕ → ℕ) (ts : Terms)
      → all_variable_numbers (terms_image to_sort to_operation ts) ≡ all_variable_numbers ts
  all_same_numbers to_sort to_operation no_terms = refl
  all_same_numbers to_sort to_operation (term_then t ts) =
      ap (λ (ns : List ℕ). ns ++ all_variable_numbers (terms_image to_sort to_operation ts)) (same_numbers to_sort to_operation t)
      ∙ ap (λ (ns : List ℕ). variable_numbers t ++ ns) (all_same_numbers to_sort to_operation ts)

row_of_images : (to_sort : ℕ → ℕ) (next : ℕ) (xs : List Variable) → AreInRow next xs → AreInRow next (map (variable_image to_sort) xs)
row_of_images to_sort next [] row = tt
row_of_images to_sort next (x ∷ xs) row = (row.0, row_of_images to_sort (suc next) xs row.1)

image_numbered : (to_sort to_operation : ℕ → ℕ) (e : Equation) → IsNumberedEquation e
    → IsNumberedEquation (equation_image to_sort to_operation e)
image_numbered to_sort to_operation e is = record {
  declared = row_of_images to_sort 0 e.variables is.declared;
  appearing = subst IsByAppearance (sym numbers) is.appearing;
}
  where
    numbers : variable_numbers (term_image to_sort to_operation e.left) ++ variable_numbers (term_image to_sort to_operation e.right)
        ≡ variable_numbers e.left ++ variable_numbers e.right
    numbers =
        ap (λ (ns : List ℕ). ns ++ variable_numbers (term_image to_sort to_operation e.right)) (same_numbers to_sort to_operation e.left)
        ∙ ap (λ (ns : List ℕ). variable_numbers e.left ++ ns) (same_numbers to_sort to_operation e.right)

-- what is new behind what was there
images_join : (to_sort to_operation : ℕ → ℕ) (kept coming : List Equation) → AreNumbered kept → AreNumbered coming
    → AreNumbered (with_new is_same_equation kept (map (equation_image to_sort to_operation) coming))
images_join to_sort to_operation kept coming first second i e at =
    elim (first_appearances.equations.adds_nothing kept (map (equation_image to_sort to_operation) coming) e (i, at)) [
      | inl before ↦ first before.0 e before.1
      | inr behind ↦
          let from = from_map (equation_image to_sort to_operation) coming behind.0 e behind.1 in
          subst IsNumberedEquation from.2 (image_numbered to_sort to_operation from.0 (second behind.0 from.0 from.1))
    ]

-- ---- Unions

all_joined : (p : Presentation) (all : List Mentioned) → AreNumbered p.equations → AllNumbered all
    → AreNumbered (fold with_mentioned p all).equations
all_joined p [] is each = is
all_joined p (m ∷ all) is each =
    all_joined (with_mentioned p m) all
    (images_join (joined_sort p m.presentation) (joined_operation p m.presentation) p.equations m.presentation.equations is
    (each 0 m refl))
    (λ i other at. each (suc i) other at)

union_numbered : (all : List Mentioned) → AllNumbered all → AreNumbered (union_of all).equations
union_numbered all each = all_joined nothing all none_numbered each

-- ---- Declarations

pub fold_keeps : {D : Type 0} (after : Presentation → D → Presentation) → ((p : Presentation) (d : D) → (after p d).equations ≡ p.equations)
    → (p : Presentation) (ds : List D) → (fold after p ds).equations ≡ p.equations
fold_keeps after keeps p [] = refl
fold_keeps after keeps p (d ∷ ds) = fold_keeps after keeps (after p d) ds ∙ keeps p d

pub declarations_keep : (name : List ℕ) (p : Presentation) (sections : WrittenSections)
    → (with_declarations name p sections).equations ≡ p.equations
declarations_keep name p sections =
    fold_keeps (with_operation name false) (λ q w. refl) (with_formal_operations name p sections) sections.operations
    ∙ fold_keeps (with_operation name true) (λ q w. refl) (with_sorts name p sections) sections.formal_operations
    ∙ fold_keeps (with_sort name false) (λ q w. refl) (with_formal_sorts name p sections) sections.sorts
    ∙ fold_keeps (with_sort name true) (λ q w. refl) p sections.formal_sorts

-- ---- Equations

-- variables that are in scope are declared in a row
in_a_row : (scope : List Variable) (next : ℕ) (order : List ℕ)
    → ((n : ℕ) → is_among order n ≡ true → (v : Variable) × (slice_get scope n ≡ Some v)) → AreInRow next (declared_from scope next order)
in_a_row scope next [] there = tt
in_a_row scope next (n ∷ order) there =
    let first = there n (or_left (nat_eq n n) (is_among order n) (eq-eqb n n refl)) in
    subst (λ (found : Option Variable). AreInRow next (declared_as next found ++ declared_from scope (suc next) order)) (sym first.1)
    (refl, in_a_row scope (suc next) order (λ m h. there m (or_right (nat_eq m n) (is_among order m) h)))

module _ (equations_number_by_appearance : EquationsNumberByAppearance) where
  sides_numbered : (p : Presentation) (asked : AskedEquation) (left right : Term) → IsSide p asked asked.equation.left left
      → IsSide p asked asked.equation.right right
      → IsNumberedEquation (equation_of_sides asked.equation.place (scope_of p asked) left right)
  sides_numbered p asked left right one other = record {
    declared = in_a_row (scope_of p asked) 0 (appearing left right) there;
    appearing = (equations_number_by_appearance asked.equation.place (scope_of p asked) left right).by_appearance;
  }
    where
      there : (n : ℕ) → is_among (appearing left right) n ≡ true → (v : Variable) × (slice_get (scope_of p asked) n ≡ Some v)
      there n h =
          elim (adds_nothing [] (declared.numbers_in_term left ++ declared.numbers_in_term right) n h) [
            | inl none ↦ among_none n none
            | inr appears ↦
                elim (among_cases (declared.numbers_in_term left) (declared.numbers_in_term right) n appears) [
                  | inl in_left ↦
                      let at = occurs_numbered left n in_left in
                      let v = in_scope p.signature (scope_of p asked) (scopes_numbered p asked.variables) asked.equation.left left
                      (sort_numbered p asked.sort) n at.0 (side_reads p asked asked.equation.left left one) at.1 in
                      (v.0, v.1)
                  | inr in_right ↦
                      let at = occurs_numbered right n in_right in
                      let v = in_scope p.signature (scope_of p asked) (scopes_numbered p asked.variables) asked.equation.right right
                      (sort_numbered p asked.sort) n at.0 (side_reads p asked asked.equation.right right other) at.1 in
                      (v.0, v.1)
                ]
          ]

  given_numbered : (p r : Presentation) (asked : List EquationQuestion) → GiveAll p asked r → AreNumbered p.equations
      → AreNumbered r.equations
  given_numbered p _ _ (none_asked _) is = is
  given_numbered p r _ (next_gives _ q _ a asked gives more) is = given_numbered q r asked more (step q a gives)
    where
      step : (q : Presentation) (a : EquationQuestion) → GivesPresentation p a q → AreNumbered q.equations
      step _ _ (sort_is_there place name there) = is
      step _ _ (formal_is_read asked left right one other premisses) = is
      step _ _ (own_is_read asked left right none one other small) =
          λ i e at. elim (before_or_last p.equations (equation_of_sides asked.equation.place (scope_of p asked) left right) i e at) [
            | inl before ↦ is i e before
            | inr last ↦ subst IsNumberedEquation last (sides_numbered p asked left right one other)
          ]

  -- ---- Types

  named_numbered : (done : List Mentioned) (name : List ℕ) → AllNumbered done → AreNumbered (presentation_named done name).equations
  named_numbered [] name each = none_numbered
  named_numbered (t ∷ ts) name each = by (one_name t.at.name name) (named_numbered ts name (λ i m at. each (suc i) m at))
    where
      by : (b : Bool) → AreNumbered (presentation_named ts name).equations
          → AreNumbered (if b then t.presentation else presentation_named ts name).equations
      by true rest = each 0 t refl
      by false rest = rest

  mentions_numbered : (done : List Mentioned) (names : List PlacedName) → AllNumbered done → AllNumbered (mentions_with done names)
  mentions_numbered done names each i m at =
      let from = from_map (mention_of done) names i m at in
      subst (λ (x : Mentioned). AreNumbered x.presentation.equations) from.2 (named_numbered done from.0.name each)

  type_numbered : (done : List Mentioned) (name : List ℕ) (body : WrittenTypeBody) (p : Presentation) → AllNumbered done
      → IsPresentation done name body p → AreNumbered p.equations
  type_numbered done name (extends imports sections) p each is =
      given_numbered (extended (mentions_with done imports) name sections) p (asked_of sections) is.1
      (subst AreNumbered (sym (declarations_keep name (union_of (mentions_with done imports)) sections))
      (union_numbered (mentions_with done imports) (mentions_numbered done imports each)))
  type_numbered done name (renames base pairs) p each is =
      subst (λ (q : Presentation). AreNumbered q.equations) is.1 (named_numbered done base.name each)
  type_numbered done name (actualises base actuals pairs) p each is =
      subst (λ (q : Presentation). AreNumbered q.equations) is.1
      (actualised (actualising_of (mention_of done base) (mentions_with done actuals) name pairs)
      (union_numbered (mentions_with done actuals) (mentions_numbered done actuals each)) (named_numbered done base.name each))
    where
      actualised : (a : Actualising) → AreNumbered a.actual.equations → AreNumbered a.base.presentation.equations
          → AreNumbered (actualisation a).equations
      actualised a actual base =
          images_join (actualised_sort a) (actualised_operation a) a.actual.equations a.base.presentation.equations actual base

  types_numbered : (done all : List Mentioned) (ts : List DeclaredType) → AllNumbered done → ArePresented done ts all → AllNumbered all
  types_numbered done all [] each (all_presented _) = each
  types_numbered done all (t ∷ ts) each (next_presented _ _ _ _ p one rest) =
      types_numbered (done ++ declared_with t p ∷ []) all ts more rest
    where
      more : AllNumbered (done ++ declared_with t p ∷ [])
      more i m at =
          elim (before_or_last done (declared_with t p) i m at) [
            | inl before ↦ each i m before
            | inr last ↦
                subst (λ (x : Mentioned). AreNumbered x.presentation.equations) last (type_numbered done t.name t.body p each one)
          ]

  pub flattened_equations_are_numbered : FlattenedEquationsAreNumbered
  flattened_equations_are_numbered types data_ is equation member =
      subst (λ (d : Data). AreNumbered d.equations) is.answered
      (union_numbered (without_formals is.all) (λ i m at. each m (contributions.no_other is.all m (i, at)).0))
      member.0 equation member.1
    where
      all : AllNumbered is.all
      all = types_numbered [] is.all (types_at types is.order) (λ i m at. absurd (none-some m at)) is.presented

      each : (m : Mentioned) → IsIn is.all m → AreNumbered m.presentation.equations
      each m at = all at.0 m at.1
