-- A term put for a variable in a term, and what is asked of the term.
use Rattle.std.specs.Prelude.{◌≡◌, ℕ, List, [], ◌∷◌, Bool, not}
use Rattle.lotos_base.specs.Signature.{Signature}
use Rattle.lotos_base.specs.Sorting.{Occurs}
use Rattle.lotos_base.specs.Term.{Term, variable}
use Rattle.lotos_base.specs.Tests.{term_eq}
use Rattle.lotos_base.specs.Substitution.{Substitution, substituted, binding}
use Rattle.behaviour_semantics.specs.WellFormed.{Every}
use Rattle.sort_terms.specs.ProfiledTerm.{ProfiledTerm, bare, head_sort, IsOf}
use Rattle.sort_terms.specs.SortedView.{profiled_in, term_in}
use Rattle.sort_terms.specs.declared.sorted.Sorted.{Sorted}

-- a pair of the code, and the substitution that puts its term for its variable
abbrev pub found_of : ℕ × Sorted → ℕ × Term
found_of found = (found.0, term_in found.1)

abbrev pub put_of : ℕ × Sorted → Substitution
put_of found = binding (found_of found ∷ [])

-- the canonical form of the term with the pair's term put for its variable before
abbrev pub changed_by : (Term → Term) → ℕ × Sorted → Term → Term
changed_by canon found t = canon (substituted (put_of found) t)

-- The pair's term has the sort of its variable, wherever that occurs in the term.
abbrev pub PutsSort : ℕ × Sorted → ProfiledTerm → Type 0
PutsSort found t = (s : ℕ) → Occurs found.0 s (bare t) → head_sort (profiled_in found.1) ≡ s

-- The pair's variable does not occur in its term.
abbrev pub LacksItsVariable : ℕ × Sorted → Type 0
LacksItsVariable found = (s : ℕ) → Occurs found.0 s (term_in found.1) → ⊥

-- The term is of the signature and in canonical form, and what is put into it is of the signature and suits it.
pub record IsReadyForPut (signature : Signature) (canon : Term → Term) (found : ℕ × Sorted) (t : ProfiledTerm) : Type 0 where
  pub is_of : IsOf signature t
  pub canonical : canon (bare t) ≡ bare t
  pub value : IsOf signature (profiled_in found.1)
  pub puts : PutsSort found t

abbrev pub IsReadyPair : Signature → (Term → Term) → ℕ × Sorted → ProfiledTerm × ProfiledTerm → Type 0
IsReadyPair signature canon found pair = IsReadyForPut signature canon found pair.0 × IsReadyForPut signature canon found pair.1

abbrev pub AreReadyPairs : Signature → (Term → Term) → ℕ × Sorted → List (ProfiledTerm × ProfiledTerm) → Type 0
AreReadyPairs signature canon found pairs = Every (IsReadyPair signature canon found) pairs

-- The term is a variable.
pub record IsVariable (t : Term) : Type 0 where
  pub number : ℕ
  pub sort : ℕ
  pub is : t ≡ variable number sort

-- the sides of the condition differ
abbrev pub have_other_sides : Sorted × Sorted → Bool
have_other_sides pair = not (term_eq (term_in pair.0) (term_in pair.1))
