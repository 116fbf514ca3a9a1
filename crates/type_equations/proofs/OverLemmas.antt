-- The equation of two readings is well formed.
use Rattle.std.proofs.Common.{◌≡◌, ℕ, zero, suc, ◌+◌, true, List, [], ◌∷◌, ◌++◌, inl, inr, refl, ap, sym, ◌∙◌, subst, arith}
use Rattle.std.specs.Prelude.{Option, Some, slice_get, nat_eq}
use Rattle.std.proofs.lemmas.Bool.{eq-eqb, or_left, or_right}
use Rattle.std.proofs.lemmas.Option.{none-some, same_Some}
use Rattle.lotos_base.specs.WrittenTerm.{WrittenTerm}
use Rattle.lotos_base.specs.Signature.{Signature, IsSort}
use Rattle.lotos_base.specs.Equation.{Place, Variable, IsDeclared}
use Rattle.lotos_base.specs.Term.{Term}
use Rattle.lotos_base.specs.Sorting.{Occurs}
use Rattle.syntax_trees.specs.WrittenVariable.{WrittenVariable}
use Rattle.sort_terms.specs.Reading.{Reads}
use Rattle.sort_terms.proofs.ReadsLemmas.{reads_sorted}
use Rattle.type_definitions.specs.TypeGraph.{is_among}
use Rattle.type_definitions.proofs.NumberLists.{among_left, among_right, among_cases, among_none}
use Rattle.type_definitions.specs.Presentation.{Presentation}
use Rattle.type_definitions.specs.DeclaredEquations.{numbers_in_term, appearing, renumbered, declared_as, declared_from, scope_from, equation_of_sides}
use Rattle.type_equations.specs.SideLaws.{AreNumberedByPosition, ScopesAreNumbered, SidesMakeAnEquation}
use Rattle.type_equations.proofs.OccurrenceLemmas.{IsInScope, in_scope, renumbered_sorted, old_number, numbers_have, occurs_numbered, comes, adds_nothing, stands_there}

-- ---- Variables under their new numbers.

-- each number of the list is that of a variable in scope
abbrev AreInScope : List Variable → List ℕ → Type 0
AreInScope scope order = (m : ℕ) → is_among order m ≡ true → (s : ℕ) × IsInScope scope m s

abbrev under : ℕ → Variable → Variable
under number v = record { name = v.name; number = number; sort = v.sort }

-- the first of them is in scope, and so are the others
first_there : (scope : List Variable) (old : ℕ) (olds : List ℕ) → AreInScope scope (old ∷ olds)
    → (v : Variable) × (slice_get scope old ≡ Some v)
first_there scope old olds there =
    let found = there old (or_left (nat_eq old old) (is_among olds old) (eq-eqb old old refl)) in (found.1.0, found.1.1)

others_there : (scope : List Variable) (old : ℕ) (olds : List ℕ) → AreInScope scope (old ∷ olds) → AreInScope scope olds
others_there scope old olds there = λ m h. there m (or_right (nat_eq m old) (is_among olds m) h)

with_first : (scope : List Variable) (k old : ℕ) (olds : List ℕ) (v : Variable) → slice_get scope old ≡ Some v
    → declared_from scope k (old ∷ olds) ≡ under k v ∷ declared_from scope (suc k) olds
with_first scope k old olds v found = ap (λ (o : Option Variable). declared_as k o ++ declared_from scope (suc k) olds) found

-- a number of the list has its variable at its position
declared_at : (scope : List Variable) (k : ℕ) (order : List ℕ) → AreInScope scope order → (i m : ℕ) (v : Variable)
    → slice_get order i ≡ Some m → slice_get scope m ≡ Some v → slice_get (declared_from scope k order) i ≡ Some (under (k + i) v)
declared_at scope k [] there i m v at found = absurd (none-some m at)
declared_at scope k (old ∷ olds) there zero m v at found =
    let same : old ≡ m = same_Some _ _ at in
    let first : slice_get scope old ≡ Some v = ap (λ (n : ℕ). slice_get scope n) same ∙ found in
    let plus : k ≡ k + 0 = omega arith in
    ap (λ (vs : List Variable). slice_get vs 0) (with_first scope k old olds v first) ∙ ap (λ (n : ℕ). Some (under n v)) plus
declared_at scope k (old ∷ olds) there (suc i) m v at found =
    let first = first_there scope old olds there in
    let plus : suc k + i ≡ k + suc i = omega arith in
    ap (λ (vs : List Variable). slice_get vs (suc i)) (with_first scope k old olds first.0 first.1)
    ∙ declared_at scope (suc k) olds (others_there scope old olds there) i m v at found ∙ ap (λ (n : ℕ). Some (under n v)) plus

-- each variable that is declared is one in scope, with its position as its number
abbrev IsUnder : List Variable → ℕ → Variable → Type 0
IsUnder scope number w = (m : ℕ) × (v : Variable) × (slice_get scope m ≡ Some v) × (w ≡ under number v)

declared_is : (scope : List Variable) (k : ℕ) (order : List ℕ) → AreInScope scope order → (i : ℕ) (w : Variable)
    → slice_get (declared_from scope k order) i ≡ Some w → IsUnder scope (k + i) w
declared_is scope k [] there i w at = absurd (none-some w at)
declared_is scope k (old ∷ olds) there zero w at =
    let first = first_there scope old olds there in
    let plus : k ≡ k + 0 = omega arith in
    let is : w ≡ under k first.0 =
    sym (same_Some _ _ (sym (ap (λ (vs : List Variable). slice_get vs 0) (with_first scope k old olds first.0 first.1)) ∙ at)) in
    (old, first.0, first.1, is ∙ ap (λ (n : ℕ). under n first.0) plus)
declared_is scope k (old ∷ olds) there (suc i) w at =
    let first = first_there scope old olds there in
    let plus : suc k + i ≡ k + suc i = omega arith in
    let further : slice_get (declared_from scope (suc k) olds) i ≡ Some w =
    sym (ap (λ (vs : List Variable). slice_get vs (suc i)) (with_first scope k old olds first.0 first.1)) ∙ at in
    subst (λ (n : ℕ). IsUnder scope n w) plus (declared_is scope (suc k) olds (others_there scope old olds there) i w further)

-- ---- The equation.

-- the numbers that appear in two readings are those of variables in scope
appearing_there : (signature : Signature) (scope : List Variable) (one other : WrittenTerm) (left right : Term) (sort : ℕ)
    → AreNumberedByPosition scope → Reads signature scope one left sort → Reads signature scope other right sort
    → AreInScope scope (appearing left right)
appearing_there signature scope one other left right sort numbered first second = λ m h.
    elim (adds_nothing [] (numbers_in_term left ++ numbers_in_term right) m h) [
      | inl none ↦ among_none m none
      | inr there ↦
          elim (among_cases (numbers_in_term left) (numbers_in_term right) m there) [
            | inl in_left ↦
                let at = occurs_numbered left m in_left in (at.0, in_scope signature scope numbered one left sort m at.0 first at.1)
            | inr in_right ↦
                let at = occurs_numbered right m in_right in (at.0, in_scope signature scope numbered other right sort m at.0 second at.1)
          ]
    ]

-- a variable of a side, whose numbers are among those that appear, is declared
declared_in : (signature : Signature) (scope : List Variable) (place : Place) (left right : Term) (w : WrittenTerm) (side : Term)
    (sort : ℕ) → AreNumberedByPosition scope → AreInScope scope (appearing left right) → Reads signature scope w side sort
    → ((m : ℕ) → is_among (numbers_in_term side) m ≡ true → is_among (appearing left right) m ≡ true) → (n s : ℕ)
    → Occurs n s (renumbered (appearing left right) side) → IsDeclared (equation_of_sides place scope left right) n s
declared_in signature scope place left right w side sort numbered there reads appears n s o =
    let order : List ℕ = appearing left right in
    let old = old_number order side n s o in
    let v = in_scope signature scope numbered w side sort old.0 s reads old.2 in
    let at : slice_get order n ≡ Some old.0 =
    subst (λ (k : ℕ). slice_get order k ≡ Some old.0) old.1
    (stands_there order old.0 (appears old.0 (numbers_have side old.0 s old.2))) in
    let zeroth : 0 + n ≡ n = omega arith in
    (n, under (0 + n) v.0, declared_at scope 0 order there n old.0 v.0 at v.1, zeroth, v.2)

pub sides_over : SidesMakeAnEquation
sides_over signature scope place one other left right sort over numbered first second = record {
  sort = sort;
  left_sort = renumbered_sorted signature order left sort (reads_sorted signature scope over one left sort first);
  right_sort = renumbered_sorted signature order right sort (reads_sorted signature scope over other right sort second);
  variable_sorts = λ n s declared.
      let is = declared_is scope 0 order there declared.0 declared.1 declared.2 in
      subst (λ (r : ℕ). IsSort signature r) (sym (ap (λ (v : Variable). v.sort) is.3) ∙ declared.4) (over is.0 is.1 is.2);
  numbers = λ i j v w at also same.
      let one_is = declared_is scope 0 order there i v at in
      let other_is = declared_is scope 0 order there j w also in
      let left_number : v.number ≡ 0 + i = ap (λ (x : Variable). x.number) one_is.3 in
      let right_number : w.number ≡ 0 + j = ap (λ (x : Variable). x.number) other_is.3 in
      omega (arith, left_number, right_number, same);
  left_declared = declared_in signature scope place left right one left sort numbered there first (λ m h.
      comes [] (numbers_in_term left ++ numbers_in_term right) m (among_left (numbers_in_term left) (numbers_in_term right) m h));
  right_declared = declared_in signature scope place left right other right sort numbered there second (λ m h.
      comes [] (numbers_in_term left ++ numbers_in_term right) m (among_right (numbers_in_term left) (numbers_in_term right) m h));
}
  where
    order : List ℕ
    order = appearing left right

    there : AreInScope scope order
    there = appearing_there signature scope one other left right sort numbered first second

-- ---- Scopes.

numbered_from : (p : Presentation) (k : ℕ) (vs : List WrittenVariable) (i : ℕ) (v : Variable)
    → slice_get (scope_from p k vs) i ≡ Some v → v.number ≡ k + i
numbered_from p k [] i v at = absurd (none-some v at)
numbered_from p k (w ∷ ws) zero v at =
    let same : k ≡ v.number = ap (λ (x : Variable). x.number) (same_Some _ _ at) in omega (arith, same)
numbered_from p k (w ∷ ws) (suc i) v at =
    let further : v.number ≡ suc k + i = numbered_from p (suc k) ws i v at in omega (arith, further)

pub scopes_numbered : ScopesAreNumbered
scopes_numbered p variables = λ i v at.
    let is : v.number ≡ 0 + i = numbered_from p 0 variables i v at in omega (arith, is)
