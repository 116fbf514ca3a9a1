-- Tests that a term is of a signature, with its variables in scope, and that its values are ground: they compute, so
-- that a worked case needs no proof of its own.
use Rattle.std.proofs.Common.{◌≡◌, ℕ, List, [], ◌∷◌, length, nat_eq, nat_lt, slice_get, Bool, true, false, ◌&&◌, Option, None, Some, unwrap_or, refl, ap, ◌∙◌, subst, inl, inr, eqb-true}
use Rattle.std.specs.Cmp.{first_so, second_so}
use Rattle.std.proofs.lemmas.Bool.{ltb-true}
use Rattle.lotos_base.specs.Signature.{Signature, Operation, IsOperation}
use Rattle.lotos_base.specs.Term.{Term, variable, node, Terms, no_terms, term_then}
use Rattle.lotos_base.specs.Sorting.{head_sort_of, HasSort, HaveSorts, IsGroundOf, Occurs, OccursAmong}
use Rattle.lotos_base.specs.Equation.{Data, Variable}
use Rattle.lotos_base.specs.Tests.{term_eq}
use Rattle.lotos_base.specs.Canon.{IsCanon}
use Rattle.lotos_base.proofs.SubstitutionLemmas.{no_variable_ground}
use Rattle.lotos_base.proofs.TestLemmas.{Decides-term_eq}
use Rattle.lotos_base.proofs.CanonLemmas.{canon_tells}
use Rattle.behaviour_semantics.specs.Behaviour.{Test}
use Rattle.behaviour_semantics.specs.Rule.{is_same_known_sort, AreValues, AllHold}
use Rattle.behaviour_semantics.specs.WellFormed.{sort_in, IsTermIn}
use Rattle.behaviour_semantics.proofs.ClosedTargets.{same_sort}

-- The operation is there, has this result, and its arguments pass.
abbrev operation_passes : Option Operation → ℕ → (List ℕ → Bool) → Bool
operation_passes None sort arguments_pass = false
operation_passes (Some o) sort arguments_pass = nat_eq o.result sort && arguments_pass o.arguments

abbrev mutual
  pub term_passes : Signature → List Variable → ℕ → Term → Bool
  term_passes signature scope sort (variable n s) =
      nat_eq s sort && (is_same_known_sort (sort_in scope n) (Some s) && nat_lt s (length signature.sorts))
  term_passes signature scope sort (node f ts) = operation_passes (slice_get signature.operations f) sort (terms_pass signature scope ts)

  pub terms_pass : Signature → List Variable → Terms → List ℕ → Bool
  terms_pass signature scope no_terms [] = true
  terms_pass signature scope no_terms (s ∷ sorts) = false
  terms_pass signature scope (term_then t ts) [] = false
  terms_pass signature scope (term_then t ts) (s ∷ sorts) = term_passes signature scope s t && terms_pass signature scope ts sorts

-- What a passed operation says.
record Passed (signature : Signature) (f sort : ℕ) (arguments_pass : List ℕ → Bool) : Type 0 where
  operation : Operation
  is : IsOperation signature f operation
  result : operation.result ≡ sort
  arguments : arguments_pass operation.arguments ≡ true

passed_operation : (signature : Signature) (f sort : ℕ) (arguments_pass : List ℕ → Bool) (o : Option Operation)
    → slice_get signature.operations f ≡ o → operation_passes o sort arguments_pass ≡ true → Passed signature f sort arguments_pass
passed_operation signature f sort arguments_pass None at e = absurd (cc e)
passed_operation signature f sort arguments_pass (Some o) at e = record {
  operation = o;
  is = at;
  result = eqb-true o.result sort (first_so (nat_eq o.result sort) (arguments_pass o.arguments) e);
  arguments = second_so (nat_eq o.result sort) (arguments_pass o.arguments) e;
}

module _ (signature : Signature) (scope : List Variable) where
  mutual
    sorted : (t : Term) (sort : ℕ) → term_passes signature scope sort t ≡ true → HasSort signature t sort
    sorted (variable n s) sort e =
        let rest : (is_same_known_sort (sort_in scope n) (Some s) && nat_lt s (length signature.sorts)) ≡ true =
        second_so (nat_eq s sort) _ e in (
          eqb-true s sort (first_so (nat_eq s sort) _ e),
          ltb-true s (length signature.sorts)
              (second_so (is_same_known_sort (sort_in scope n) (Some s)) _ rest),
        )
    sorted (node f ts) sort e =
        let p : Passed signature f sort (terms_pass signature scope ts) =
        passed_operation signature f sort (terms_pass signature scope ts) (slice_get signature.operations f) refl e in
        (p.operation, p.is, p.result, all_sorted ts p.operation.arguments p.arguments)

    all_sorted : (ts : Terms) (sorts : List ℕ) → terms_pass signature scope ts sorts ≡ true → HaveSorts signature ts sorts
    all_sorted no_terms [] e = tt
    all_sorted no_terms (s ∷ sorts) e = absurd (cc e)
    all_sorted (term_then t ts) [] e = absurd (cc e)
    all_sorted (term_then t ts) (s ∷ sorts) e = (
      sorted t s (first_so (term_passes signature scope s t) _ e),
      all_sorted ts sorts (second_so (term_passes signature scope s t) _ e),
    )

  mutual
    bound : (t : Term) (sort : ℕ) → term_passes signature scope sort t ≡ true → (n s : ℕ) → Occurs n s t → sort_in scope n ≡ Some s
    bound (variable m r) sort e n s o =
        let rest : (is_same_known_sort (sort_in scope m) (Some r) && nat_lt r (length signature.sorts)) ≡ true =
        second_so (nat_eq r sort) _ e in
        let at : sort_in scope m ≡ Some r =
        same_sort (sort_in scope m) r (first_so (is_same_known_sort (sort_in scope m) (Some r)) _ rest) in
        subst (λ (k : ℕ). sort_in scope k ≡ Some s) o.0 (at ∙ ap (λ (k : ℕ). Some k) o.1)
    bound (node f ts) sort e n s o =
        let p : Passed signature f sort (terms_pass signature scope ts) =
        passed_operation signature f sort (terms_pass signature scope ts) (slice_get signature.operations f) refl e in
        all_bound ts p.operation.arguments p.arguments n s o

    all_bound : (ts : Terms) (sorts : List ℕ) → terms_pass signature scope ts sorts ≡ true → (n s : ℕ) → OccursAmong n s ts
        → sort_in scope n ≡ Some s
    all_bound no_terms [] e n s o = absurd o
    all_bound no_terms (r ∷ sorts) e n s o = absurd o
    all_bound (term_then t ts) [] e n s o = absurd (cc e)
    all_bound (term_then t ts) (r ∷ sorts) e n s (inl o) = bound t r (first_so (term_passes signature scope r t) _ e) n s o
    all_bound (term_then t ts) (r ∷ sorts) e n s (inr o) = all_bound ts sorts (second_so (term_passes signature scope r t) _ e) n s o

pub term_in : (signature : Signature) (scope : List Variable) (sort : ℕ) (t : Term) → term_passes signature scope sort t ≡ true
    → IsTermIn signature scope sort t
term_in signature scope sort t e = record { sorted = sorted signature scope t sort e; bound = bound signature scope t sort e }

-- With nothing in scope a term is ground.
pub ground_in : (signature : Signature) (sort : ℕ) (t : Term) → term_passes signature [] sort t ≡ true → IsGroundOf signature sort t
ground_in signature sort t e = record {
  ground = no_variable_ground t (λ n s o. absurd (cc (bound signature [] t sort e n s o)));
  sorted = sorted signature [] t sort e;
}

abbrev pub values_pass : Signature → List ℕ → List Term → Bool
values_pass signature [] [] = true
values_pass signature (s ∷ sorts) (t ∷ terms) = term_passes signature [] s t && values_pass signature sorts terms
values_pass signature _ _ = false

pub values_in : (signature : Signature) (sorts : List ℕ) (terms : List Term) → values_pass signature sorts terms ≡ true
    → AreValues signature sorts terms
values_in signature [] [] e = tt
values_in signature (s ∷ sorts) (t ∷ terms) e = (
  ground_in signature s t (first_so (term_passes signature [] s t) _ e),
  values_in signature sorts terms (second_so (term_passes signature [] s t) _ e),
)
values_in signature [] (t ∷ terms) e = absurd (cc e)
values_in signature (s ∷ sorts) [] e = absurd (cc e)

-- The sort that a term's head gives it, or 0.
abbrev pub head_sort : Signature → Term → ℕ
head_sort signature t = unwrap_or (head_sort_of signature t) 0

-- The equation has ground sides of one sort, whose canonical forms are identical.
abbrev holds : Signature → (Term → Term) → Test → Bool
holds signature canon test =
    let sort : ℕ = head_sort signature test.left in
    term_passes signature [] sort test.left && (term_passes signature [] sort test.right && term_eq (canon test.left) (canon test.right))

abbrev pub all_hold : Signature → (Term → Term) → List Test → Bool
all_hold signature canon [] = true
all_hold signature canon (test ∷ tests) = holds signature canon test && all_hold signature canon tests

pub tests_hold : (data_ : Data) (canon : Term → Term) → IsCanon data_ canon → (tests : List Test)
    → all_hold data_.signature canon tests ≡ true → AllHold data_ tests
tests_hold data_ canon is_canon [] e = tt
tests_hold data_ canon is_canon (test ∷ tests) e =
    let sort : ℕ = head_sort data_.signature test.left in
    let one : holds data_.signature canon test ≡ true = first_so (holds data_.signature canon test) _ e in
    let rest : (term_passes data_.signature [] sort test.right && term_eq (canon test.left) (canon test.right)) ≡ true =
    second_so (term_passes data_.signature [] sort test.left) _ one in (
      canon_tells data_ canon test.left test.right sort is_canon
          (ground_in data_.signature sort test.left (first_so (term_passes data_.signature [] sort test.left) _ one))
          (ground_in data_.signature sort test.right (first_so (term_passes data_.signature [] sort test.right) _ rest))
          ((Decides-term_eq (canon test.left) (canon test.right)).0 (second_so (term_passes data_.signature [] sort test.right) _ rest)),
      tests_hold data_ canon is_canon tests (second_so (holds data_.signature canon test) _ e),
    )
