-- A test that equations are well formed over a signature.
use Rattle.std.proofs.Common.{◌≡◌, ℕ, zero, suc, List, [], ◌∷◌, nat_eq, slice_get, Bool, true, false, ◌&&◌, if◌then◌else◌, Some, refl, ap, ◌∙◌, subst, eqb-true}
use Rattle.std.specs.Cmp.{first_so, second_so}
use Rattle.lotos_base.specs.Signature.{Signature, IsSort}
use Rattle.lotos_base.specs.Equation.{Variable, Equation, IsEquationOver}
use Rattle.behaviour_semantics.specs.Behaviour.{numbers_of}
use Rattle.behaviour_semantics.specs.WellFormed.{sort_in, Every, AreBinders, IsTermIn}
use Rattle.behaviour_semantics.proofs.OptionLemmas.{some_value}
use Rattle.behaviour_semantics.proofs.ListLemmas.{Every-at}
use Rattle.worked_cases.proofs.TermTests.{head_sort, term_passes, term_in}
use Rattle.worked_cases.proofs.WellFormedTests.{binders_pass, are_binders}

-- A variable in scope stands in the list of the scope.
record Declared (scope : List Variable) (n s : ℕ) : Type 0 where
  place : ℕ
  declared : Variable
  at : slice_get scope place ≡ Some declared
  number : declared.number ≡ n
  sort : declared.sort ≡ s

declared_in : (scope : List Variable) (n s : ℕ) → sort_in scope n ≡ Some s → Declared scope n s
declared_in [] n s e = absurd (cc e)
declared_in (x ∷ scope) n s e = by (nat_eq x.number n) refl (declared_in scope n s) e
  where
    by : (same : Bool) → nat_eq x.number n ≡ same → (sort_in scope n ≡ Some s → Declared scope n s)
        → (if same then Some x.sort else sort_in scope n) ≡ Some s → Declared (x ∷ scope) n s
    by true same rest found = record { place = 0; declared = x; at = refl; number = eqb-true x.number n same; sort = some_value found }
    by false same rest found =
        let d : Declared scope n s = rest found in
        record { place = suc d.place; declared = d.declared; at = d.at; number = d.number; sort = d.sort }

number_at : (variables : List Variable) (i : ℕ) (v : Variable) → slice_get variables i ≡ Some v
    → slice_get (numbers_of variables) i ≡ Some v.number
number_at [] i v at = absurd (cc at)
number_at (x ∷ variables) zero v at = ap (λ (y : Variable). Some y.number) (some_value at)
number_at (x ∷ variables) (suc i) v at = number_at variables i v at

module _ (signature : Signature) where
  abbrev equation_passes : Equation → Bool
  equation_passes e =
      let sort : ℕ = head_sort signature e.left in
      binders_pass signature 0 [] e.variables && (term_passes signature e.variables sort e.left
      && term_passes signature e.variables sort e.right)

  is_equation_over : (e : Equation) → equation_passes e ≡ true → IsEquationOver signature e
  is_equation_over e passed =
      let sort : ℕ = head_sort signature e.left in
      let binders : AreBinders signature e.variables = are_binders signature 0 [] e.variables
      (first_so (binders_pass signature 0 [] e.variables) _ passed) in
      let sides : (term_passes signature e.variables sort e.left && term_passes signature e.variables sort e.right) ≡ true =
      second_so (binders_pass signature 0 [] e.variables) _ passed in
      let left : IsTermIn signature e.variables sort e.left =
      term_in signature e.variables sort e.left (first_so (term_passes signature e.variables sort e.left) _ sides) in
      let right : IsTermIn signature e.variables sort e.right =
      term_in signature e.variables sort e.right (second_so (term_passes signature e.variables sort e.left) _ sides) in
      record {
        sort = sort;
        left_sort = left.sorted;
        right_sort = right.sorted;
        variable_sorts = λ n s d. subst (IsSort signature) d.4
            (Every-at (λ (x : Variable). IsSort signature x.sort) e.variables d.0 d.1 binders.1 d.2);
        numbers = λ i j v w at at' same. binders.0 i j w.number (number_at e.variables i v at ∙ ap (λ (n : ℕ). Some n) same)
            (number_at e.variables j w at');
        left_declared = λ n s o. let d : Declared e.variables n s =
            declared_in e.variables n s (left.bound n s o) in (d.place, d.declared, d.at, d.number, d.sort);
        right_declared = λ n s o. let d : Declared e.variables n s =
            declared_in e.variables n s (right.bound n s o) in (d.place, d.declared, d.at, d.number, d.sort);
      }

  abbrev pub equations_pass : List Equation → Bool
  equations_pass [] = true
  equations_pass (e ∷ equations) = equation_passes e && equations_pass equations

  pub are_equations_over : (equations : List Equation) → equations_pass equations ≡ true → Every (IsEquationOver signature) equations
  are_equations_over [] passed = tt
  are_equations_over (e ∷ equations) passed = (
    is_equation_over e (first_so (equation_passes e) _ passed),
    are_equations_over equations (second_so (equation_passes e) _ passed),
  )
