-- Environments of bound variables: each variable has one pair, with a value of its sort.
use Rattle.std.proofs.Common.{◌≡◌, ℕ, zero, suc, List, [], ◌∷◌, ◌++◌, map, slice_get, nat_eq, Bool, true, false, if◌then◌else◌, Some, refl, ap, sym, ◌∙◌, eqb-true, eq-eqb, subst}
use Rattle.std.specs.Prelude.{zip}
use Rattle.std.proofs.lemmas.Option.{same_Some, none-some}
use Rattle.std.proofs.lemmas.List.{append-nil}
use Rattle.lotos_base.specs.Signature.{Signature}
use Rattle.lotos_base.specs.Term.{Term}
use Rattle.lotos_base.specs.Sorting.{HasSort, IsGround}
use Rattle.lotos_base.specs.Equation.{Variable}
use Rattle.lotos_base.specs.Substitution.{is_listed}
use Rattle.behaviour_semantics.specs.Behaviour.{Behaviour, Process, numbers_of, sorts_of}
use Rattle.behaviour_semantics.specs.Rule.{AreValues}
use Rattle.behaviour_semantics.specs.WellFormed.{AreDistinct, IsBehaviour, sort_in}
use Rattle.sort_terms.specs.ProfiledTerm.{head_sort}
use Rattle.sort_terms.specs.SortedView.{profiled_in, term_in}
use Rattle.sort_terms.specs.declared.sorted.Sorted.{Sorted}
use Rattle.behaviour_tree.specs.Closed.{AreGroundValues, IsClosedBy, IsGivenOnce}
use Rattle.behaviour_tree.specs.Over.{AreTermsOf}
use Rattle.behaviour_tree.specs.StateView.{environment_of, environment_pair_of, pair_profile}
use Rattle.behaviour_tree.proofs.FreeLemmas.{free_in_scope}
use Rattle.behaviour_tree.proofs.StartLemmas.{told_sort}

-- ---- Pairs of other variables
abbrev pub IsAbsent : ℕ → List (ℕ × Sorted) → Type 0
IsAbsent n [] = Unit {0}
IsAbsent n (pair ∷ pairs) = (pair.0 ≡ n → ⊥) × IsAbsent n pairs

absent_at : (n : ℕ) (pairs : List (ℕ × Sorted)) (k : ℕ) (v : Sorted) → IsAbsent n pairs → slice_get pairs k ≡ Some (n, v) → ⊥
absent_at n [] k v h e = none-some (n, v) e
absent_at n (pair ∷ pairs) zero v h e = h.0 (ap (λ (p : ℕ × Sorted). p.0) (same_Some pair (n, v) e))
absent_at n (pair ∷ pairs) (suc k) v h e = absent_at n pairs k v h.1 e

absent_from : (n : ℕ) (pairs : List (ℕ × Sorted)) → ((k : ℕ) (v : Sorted) → slice_get pairs k ≡ Some (n, v) → ⊥) → IsAbsent n pairs
absent_from n [] h = tt
absent_from n (pair ∷ pairs) h = (
  (λ e. h zero pair.1 (ap (λ (m : ℕ). let p : ℕ × Sorted = (m, pair.1) in Some p) e)),
  absent_from n pairs (λ k v e. h (suc k) v e),
)

pub absent_append : (n : ℕ) (first second : List (ℕ × Sorted)) → IsAbsent n first → IsAbsent n second → IsAbsent n (first ++ second)
absent_append n [] second h k = k
absent_append n (pair ∷ first) second h k = (h.0, absent_append n first second h.1 k)

-- ---- The one pair of a variable
pub given_here : (n s : ℕ) (pair : ℕ × Sorted) (pairs : List (ℕ × Sorted)) → pair.0 ≡ n → head_sort (profiled_in pair.1) ≡ s
    → IsAbsent n pairs → IsGivenOnce (pair ∷ pairs) n s
given_here n s pair pairs e sorted absent = record {
  position = zero;
  value = pair.1;
  given = ap (λ (m : ℕ). let p : ℕ × Sorted = (m, pair.1) in Some p) e;
  sorted = sorted;
  once = once;
}
  where
    once : (k : ℕ) (other : Sorted) → slice_get (pair ∷ pairs) k ≡ Some (n, other) → k ≡ zero
    once zero other at = refl
    once (suc k) other at = absurd (absent_at n pairs k other absent at)

pub given_later : (n s : ℕ) (pair : ℕ × Sorted) (pairs : List (ℕ × Sorted)) → (pair.0 ≡ n → ⊥) → IsGivenOnce pairs n s
    → IsGivenOnce (pair ∷ pairs) n s
given_later n s pair pairs other given = record {
  position = suc given.position;
  value = given.value;
  given = given.given;
  sorted = given.sorted;
  once = once;
}
  where
    once : (k : ℕ) (v : Sorted) → slice_get (pair ∷ pairs) k ≡ Some (n, v) → k ≡ suc given.position
    once zero v at = absurd (other (ap (λ (p : ℕ × Sorted). p.0) (same_Some pair (n, v) at)))
    once (suc k) v at = ap suc (given.once k v at)

pub given_behind : (n s : ℕ) (first second : List (ℕ × Sorted)) → IsAbsent n first → IsGivenOnce second n s
    → IsGivenOnce (first ++ second) n s
given_behind n s [] second absent given = given
given_behind n s (pair ∷ first) second absent given =
    given_later n s pair (first ++ second) absent.0 (given_behind n s first second absent.1 given)

-- The pair comes first, or stands in the rest.
module _ (n s : ℕ) (pair : ℕ × Sorted) (pairs : List (ℕ × Sorted)) (given : IsGivenOnce (pair ∷ pairs) n s) where
  pub rest_absent : pair.0 ≡ n → IsAbsent n pairs
  rest_absent e =
      absent_from n pairs (λ k v at.
      let first : zero ≡ given.position = given.once zero pair.1 (ap (λ (m : ℕ). let p : ℕ × Sorted = (m, pair.1) in Some p) e) in
      let later : suc k ≡ given.position = given.once (suc k) v at in
      let both : suc k ≡ zero = later ∙ sym first in absurd (cc both))

  pub head_given : pair.0 ≡ n → head_sort (profiled_in pair.1) ≡ s
  head_given e = by given.position refl
    where
      by : (k : ℕ) → given.position ≡ k → head_sort (profiled_in pair.1) ≡ s
      by k is =
          let first : zero ≡ given.position = given.once zero pair.1 (ap (λ (m : ℕ). let p : ℕ × Sorted = (m, pair.1) in Some p) e) in
          let at : slice_get (pair ∷ pairs) zero ≡ Some (n, given.value) =
          subst (λ (i : ℕ). slice_get (pair ∷ pairs) i ≡ Some (n, given.value)) (sym first) given.given in
          ap (λ (p : ℕ × Sorted). head_sort (profiled_in p.1)) (same_Some pair (n, given.value) at) ∙ given.sorted

  pub rest_given : (pair.0 ≡ n → ⊥) → IsGivenOnce pairs n s
  rest_given other = by given.position refl
    where
      by : (k : ℕ) → given.position ≡ k → IsGivenOnce pairs n s
      by zero is =
          let at : slice_get (pair ∷ pairs) zero ≡ Some (n, given.value) =
          subst (λ (i : ℕ). slice_get (pair ∷ pairs) i ≡ Some (n, given.value)) is given.given in
          absurd (other (ap (λ (p : ℕ × Sorted). p.0) (same_Some pair (n, given.value) at)))
      by (suc k) is = record {
        position = k;
        value = given.value;
        given = subst (λ (i : ℕ). slice_get (pair ∷ pairs) i ≡ Some (n, given.value)) is given.given;
        sorted = given.sorted;
        once = λ j v at. let same : suc j ≡ suc k = given.once (suc j) v at ∙ is in cc same;
      }

-- ---- Pairs of variables with terms

-- A number that is not listed has no place in the list.
not_at : (numbers : List ℕ) (n k : ℕ) → is_listed numbers n ≡ false → slice_get numbers k ≡ Some n → ⊥
not_at [] n k e at = none-some n at
not_at (m ∷ numbers) n zero e at =
    let same : nat_eq m n ≡ true = eq-eqb m n (same_Some m n at) in
    let listed : true ≡ false = ap (λ (b : Bool). if b then true else is_listed numbers n) (sym same) ∙ e in cc listed
not_at (m ∷ numbers) n (suc k) e at = by (nat_eq m n) e (λ f. not_at numbers n k f at)
  where
    by : (b : Bool) → (if b then true else is_listed numbers n) ≡ false → (is_listed numbers n ≡ false → ⊥) → ⊥
    by true f rest = cc f
    by false f rest = rest f

-- A number without a place among the variables has no pair.
absent_bound : (n : ℕ) (variables : List Variable) (terms : List Term) (pairs : List (ℕ × Sorted))
    → environment_of pairs ≡ zip (numbers_of variables) terms → ((k : ℕ) → slice_get (numbers_of variables) k ≡ Some n → ⊥)
    → IsAbsent n pairs
absent_bound n variables terms [] e h = tt
absent_bound n [] terms (pair ∷ pairs) e h = absurd (cc e)
absent_bound n (x ∷ variables) [] (pair ∷ pairs) e h = absurd (cc e)
absent_bound n (x ∷ variables) (t ∷ terms) (pair ∷ pairs) e h =
    let head : environment_pair_of pair ≡ (x.number, t) = cc e in
    let tail : environment_of pairs ≡ zip (numbers_of variables) terms = cc e in (
      (λ same. h zero (ap (λ (m : ℕ). Some m) (sym (ap (λ (p : ℕ × Term). p.0) head) ∙ same))),
      absent_bound n variables terms pairs tail (λ k at. h (suc k) at),
    )

pub absent_unlisted : (n : ℕ) (variables : List Variable) (terms : List Term) (pairs : List (ℕ × Sorted))
    → environment_of pairs ≡ zip (numbers_of variables) terms → is_listed (numbers_of variables) n ≡ false → IsAbsent n pairs
absent_unlisted n variables terms pairs e left =
    absent_bound n variables terms pairs e (λ k at. not_at (numbers_of variables) n k left at)

-- Distinct numbers.
distinct_rest : (n : ℕ) (numbers : List ℕ) → AreDistinct (n ∷ numbers) → AreDistinct numbers
distinct_rest n numbers h i j m a b = let same : suc i ≡ suc j = h (suc i) (suc j) m a b in cc same

not_later : (n : ℕ) (numbers : List ℕ) → AreDistinct (n ∷ numbers) → (k : ℕ) → slice_get numbers k ≡ Some n → ⊥
not_later n numbers h k at = let same : suc k ≡ zero = h (suc k) zero n at refl in cc same

module _ (signature : Signature) (n s : ℕ) where
  -- Each variable in scope has one pair, with a value of its sort.
  pub bound_given : (variables : List Variable) (terms : List Term) (pairs : List (ℕ × Sorted))
      → environment_of pairs ≡ zip (numbers_of variables) terms → AreTermsOf signature (map pair_profile pairs)
      → AreValues signature (sorts_of variables) terms → AreDistinct (numbers_of variables) → sort_in variables n ≡ Some s
      → IsGivenOnce pairs n s
  bound_given [] terms pairs e of h distinct found = absurd (none-some s found)
  bound_given (x ∷ variables) [] pairs e of h distinct found = absurd h
  bound_given (x ∷ variables) (t ∷ terms) [] e of h distinct found = absurd (cc e)
  bound_given (x ∷ variables) (t ∷ terms) (pair ∷ pairs) e of h distinct found =
      by (nat_eq x.number n) refl found
      (λ at. bound_given variables terms pairs (cc e) of.1 h.1 (distinct_rest x.number (numbers_of variables) distinct) at)
    where
      head : environment_pair_of pair ≡ (x.number, t)
      head = cc e

      tail : environment_of pairs ≡ zip (numbers_of variables) terms
      tail = cc e

      number : pair.0 ≡ x.number
      number = ap (λ (p : ℕ × Term). p.0) head

      sorted : HasSort signature (term_in pair.1) x.sort
      sorted = subst (λ (u : Term). HasSort signature u x.sort) (sym (ap (λ (p : ℕ × Term). p.1) head)) h.0.sorted

      by : (same : Bool) → nat_eq x.number n ≡ same → (if same then Some x.sort else sort_in variables n) ≡ Some s
          → (sort_in variables n ≡ Some s → IsGivenOnce pairs n s) → IsGivenOnce (pair ∷ pairs) n s
      by true same at rest =
          let here : x.number ≡ n = eqb-true x.number n same in
          given_here n s pair pairs (number ∙ here)
          (told_sort signature (profiled_in pair.1) x.sort of.0 sorted ∙ same_Some x.sort s at)
          (absent_bound n variables terms pairs tail
          (λ k there. not_later x.number (numbers_of variables) distinct k (there ∙ ap (λ (m : ℕ). Some m) (sym here))))
      by false same at rest =
          given_later n s pair pairs
          (λ here.
          let listed : true ≡ false = sym (eq-eqb x.number n (sym number ∙ here)) ∙ same in cc listed) (rest at)

pub bound_ground : (signature : Signature) (variables : List Variable) (terms : List Term) (pairs : List (ℕ × Sorted))
    → environment_of pairs ≡ zip (numbers_of variables) terms → AreValues signature (sorts_of variables) terms → AreGroundValues pairs
bound_ground signature variables terms [] e h = tt
bound_ground signature [] terms (pair ∷ pairs) e h = absurd (cc e)
bound_ground signature (x ∷ variables) [] (pair ∷ pairs) e h = absurd h
bound_ground signature (x ∷ variables) (t ∷ terms) (pair ∷ pairs) e h =
    let head : environment_pair_of pair ≡ (x.number, t) = cc e in
    let tail : environment_of pairs ≡ zip (numbers_of variables) terms = cc e in (
      subst (λ (u : Term). IsGround u) (sym (ap (λ (p : ℕ × Term). p.1) head)) h.0.ground,
      bound_ground signature variables terms pairs tail h.1,
    )

-- ---- What a binder's values close
pub bound_closed : (signature : Signature) (names : ℕ) (processes : List Process) (variables : List Variable) (terms : List Term)
    (pairs : List (ℕ × Sorted)) (b : Behaviour) → environment_of pairs ≡ zip (numbers_of variables) terms
    → AreTermsOf signature (map pair_profile pairs) → AreValues signature (sorts_of variables) terms → AreDistinct (numbers_of variables)
    → IsBehaviour signature names processes (variables ++ []) b → IsClosedBy pairs b
bound_closed signature names processes variables terms pairs b e of values distinct h = record {
  given = λ n s free. bound_given signature n s variables terms pairs e of values distinct
      (subst (λ (scope : List Variable). sort_in scope n ≡ Some s) (append-nil variables)
      (free_in_scope signature n s names processes (variables ++ []) b h free));
  grounded = bound_ground signature variables terms pairs e values;
}

-- A closed behaviour is closed by nothing.
pub nothing_free : (signature : Signature) (names : ℕ) (processes : List Process) (b : Behaviour)
    → IsBehaviour signature names processes [] b → IsClosedBy [] b
nothing_free signature names processes b h = record {
  given = λ n s free. absurd (none-some s (free_in_scope signature n s names processes [] b h free));
  grounded = tt;
}
