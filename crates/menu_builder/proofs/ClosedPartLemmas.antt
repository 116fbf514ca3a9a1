-- The variables of an environment of values are in scope in what is closed below it.
use Rattle.std.proofs.Common.{◌≡◌, ◌+◌, inr, ℕ, zero, suc, List, [], ◌∷◌, Bool, true, false, nat_eq, if◌then◌else◌, Some, slice_get, length, refl, ap, sym, ◌∙◌, subst, eqb-true, eq-eqb}
use Rattle.lotos_base.specs.Signature.{Signature, IsSort, IsWellFormedSignature}
use Rattle.lotos_base.specs.Sorting.{HasSort}
use Rattle.lotos_base.specs.Term.{Term, variable, node}
use Rattle.lotos_base.specs.Substitution.{binding}
use Rattle.lotos_base.proofs.SubstitutionLemmas.{ground_no_variable}
use Rattle.behaviour_semantics.specs.WellFormed.{Every, sort_in}
use Rattle.behaviour_semantics.proofs.OptionLemmas.{some_value}
use Rattle.sort_terms.specs.ProfiledTerm.{ProfiledTerm, head_sort, IsOf}
use Rattle.sort_terms.specs.SortedView.{profiled_in, term_in}
use Rattle.sort_terms.specs.declared.sorted.Sorted.{Sorted}
use Rattle.sort_terms.proofs.ProfiledTermLemmas.{fitting_has_sort}
use Rattle.term_match.specs.ProfiledInstance.{bare_pairs}
use Rattle.term_match.specs.SubstView.{profiled_pairs}
use Rattle.behaviour_tree.specs.Closed.{AreGroundValues, IsGivenOnce}
use Rattle.behaviour_tree.specs.StateView.{environment_of}
use Rattle.draft_parts.specs.EnvironmentRaises.{GivesScope}
use Rattle.draft_parts.specs.ScopeLaws.{IsGivenIn}
use Rattle.draft_parts.proofs.ScopeLemmas.{put_parts}
use Rattle.menu_builder.specs.ClosedParts.{variables_given, ClosedPartsAreBelow}

-- a sorted term of a well-formed signature has a sort of it
sort_known : (signature : Signature) (t : Term) (s : ℕ) → IsWellFormedSignature signature → HasSort signature t s → IsSort signature s
sort_known signature (variable n r) s fine h = subst (IsSort signature) h.0 h.1
sort_known signature (node f ts) s fine h = subst (IsSort signature) h.2 (fine.results f h.0 h.1)

-- what an environment has for a variable that it gives once
abbrev Given : List (ℕ × Sorted) → ℕ → Sorted → Type 0
Given pairs n value =
    (sort_in (variables_given (profiled_pairs pairs)) n ≡ Some (head_sort (profiled_in value)))
    × ((s : ℕ) → binding (environment_of pairs) n s ≡ term_in value)

-- the same for a pair before others, by whether the pair is that of the variable
abbrev GivenIf : ℕ × Sorted → List (ℕ × Sorted) → ℕ → Sorted → Bool → Type 0
GivenIf pair pairs n value b =
    ((if b then Some (head_sort (profiled_in pair.1)) else sort_in (variables_given (profiled_pairs pairs)) n)
    ≡ Some (head_sort (profiled_in value)))
    × ((s : ℕ) → (if b then term_in pair.1 else binding (environment_of pairs) n s) ≡ term_in value)

at_head : (pair : ℕ × Sorted) (pairs : List (ℕ × Sorted)) (n : ℕ) (value : Sorted) → pair ≡ (n, value) → Given (pair ∷ pairs) n value
at_head pair pairs n value same = by (nat_eq pair.0 n) (eq-eqb pair.0 n (ap (λ (p : ℕ × Sorted). p.0) same))
  where
    by : (b : Bool) → b ≡ true → GivenIf pair pairs n value b
    by true e = (ap (λ (p : ℕ × Sorted). Some (head_sort (profiled_in p.1))) same, λ s. ap (λ (p : ℕ × Sorted). term_in p.1) same)
    by false e = absurd (cc e)

behind_head : (pair : ℕ × Sorted) (pairs : List (ℕ × Sorted)) (n : ℕ) (value : Sorted) → (nat_eq pair.0 n ≡ true → ⊥) → Given pairs n value
    → Given (pair ∷ pairs) n value
behind_head pair pairs n value other h = by (nat_eq pair.0 n) other
  where
    by : (b : Bool) → (b ≡ true → ⊥) → GivenIf pair pairs n value b
    by true differs = absurd (differs refl)
    by false differs = h

given_once : (pairs : List (ℕ × Sorted)) (n position : ℕ) (value : Sorted) → slice_get pairs position ≡ Some (n, value)
    → ((k : ℕ) (other : Sorted) → slice_get pairs k ≡ Some (n, other) → k ≡ position) → Given pairs n value
given_once [] n position value at once = absurd (cc at)
given_once (pair ∷ pairs) n zero value at once = at_head pair pairs n value (some_value at)
given_once (pair ∷ pairs) n (suc position) value at once =
    behind_head pair pairs n value other (given_once pairs n position value at later)
  where
    later : (k : ℕ) (more : Sorted) → slice_get pairs k ≡ Some (n, more) → k ≡ position
    later k more there = let same : suc k ≡ suc position = once (suc k) more there in cc same

    other : nat_eq pair.0 n ≡ true → ⊥
    other e =
        let same : zero ≡ suc position = once zero pair.1 (ap (λ (m : ℕ). Some (m, pair.1)) (eqb-true pair.0 n e)) in absurd (cc same)

-- the value of the pair at a position is of the signature
value_of : (signature : Signature) (pairs : List (ℕ × Sorted)) (n position : ℕ) (value : Sorted)
    → Every (λ (pair : ℕ × ProfiledTerm). IsOf signature pair.1) (profiled_pairs pairs) → slice_get pairs position ≡ Some (n, value)
    → IsOf signature (profiled_in value)
value_of signature [] n position value h at = absurd (cc at)
value_of signature (pair ∷ pairs) n zero value h at =
    subst (λ (p : ℕ × Sorted). IsOf signature (profiled_in p.1)) (some_value at) h.0
value_of signature (pair ∷ pairs) n (suc position) value h at = value_of signature pairs n position value h.1 at

module _ (signature : Signature) (fine : IsWellFormedSignature signature) where
  value_sorted : (value : Sorted) → IsOf signature (profiled_in value) → HasSort signature (term_in value) (head_sort (profiled_in value))
  value_sorted value h = fitting_has_sort signature (profiled_in value) h value.fits

  free_given : (pairs : List (ℕ × Sorted)) (n s : ℕ)
      → Every (λ (pair : ℕ × ProfiledTerm). IsOf signature pair.1) (profiled_pairs pairs) → IsGivenOnce pairs n s
      → IsGivenIn signature (variables_given (profiled_pairs pairs)) [] (binding (environment_of pairs)) n s
  free_given pairs n s h once =
      let has : Given pairs n once.value = given_once pairs n once.position once.value once.given once.once in
      let here : HasSort signature (term_in once.value) s =
      subst (HasSort signature (term_in once.value)) once.sorted
      (value_sorted once.value (value_of signature pairs n once.position once.value h once.given)) in
      inr (
        subst (λ (t : Term). HasSort signature t s) (sym (has.1 s)) here,
        sort_known signature (term_in once.value) s fine here,
        has.0 ∙ ap (λ (r : ℕ). Some r) once.sorted,
      )

  gives_values : (base : ℕ) (pairs : List (ℕ × Sorted))
      → Every (λ (pair : ℕ × ProfiledTerm). IsOf signature pair.1) (profiled_pairs pairs) → AreGroundValues pairs
      → GivesScope signature base (base + 0) (variables_given (profiled_pairs pairs)) (bare_pairs (profiled_pairs pairs))
  gives_values base [] h ground = tt
  gives_values base (pair ∷ pairs) h ground = (
    refl,
    sort_known signature (term_in pair.1) (head_sort (profiled_in pair.1)) fine (value_sorted pair.1 h.0),
    record {
      sorted = value_sorted pair.1 h.0;
      leaves = λ n s o. absurd (ground_no_variable (term_in pair.1) ground.0 n s o);
    },
    gives_values base pairs h.1 ground.1,
  )

pub closed_parts : ClosedPartsAreBelow
closed_parts data_ canon specification pairs b base fine is_canon well_formed closed values inside apart low = record {
  is_canon = is_canon;
  well_formed = well_formed;
  formed = put_parts data_.signature (length specification.gate_names) specification.processes (variables_given (profiled_pairs pairs)) []
      (binding (environment_of pairs)) b (λ n s free. free_given data_.signature fine pairs n s values (closed.given n s free)) inside;
  apart = apart;
  low = low;
  gives = gives_values data_.signature fine base pairs values closed.grounded;
}
