-- When a pattern matches a term, and what the pairs are that show it.
use Rattle.std.specs.Prelude.{◌≡◌, ℕ, List, Some, slice_get}
use Rattle.lotos_base.specs.Term.{Term}
use Rattle.lotos_base.specs.Signature.{Signature}
use Rattle.lotos_base.specs.Sorting.{Occurs}
use Rattle.lotos_base.specs.Substitution.{substituted, binding}
use Rattle.rewriting_theory.specs.Matching.{Matches}
use Rattle.sort_terms.specs.ProfiledTerm.{ProfiledTerm, bare, head_sort, IsOf}
use Rattle.term_match.specs.ProfiledInstance.{bare_pairs}

-- In the term a variable number has one sort.
abbrev pub TermHasOneSortPerNumber : Term → Type 0
TermHasOneSortPerNumber t = (n r s : ℕ) → Occurs n r t → Occurs n s t → r ≡ s

-- The pattern has the sort of the term, and some substitution makes it the term.
abbrev pub HasMatch : ProfiledTerm → ProfiledTerm → Type 0
HasMatch pattern t = (head_sort pattern ≡ head_sort t) × Matches (bare pattern) (bare t)

-- The pair is one of the pairs.
abbrev pub IsPair : List (ℕ × ProfiledTerm) → ℕ → ProfiledTerm → Type 0
IsPair pairs n t = (i : ℕ) × (slice_get pairs i ≡ Some (n, t))

-- The variable number occurs in the term, with some sort.
abbrev pub NumberOccurs : ℕ → Term → Type 0
NumberOccurs n t = (s : ℕ) × Occurs n s t

-- The pairs match the pattern with the term: with their terms put for its variables the pattern is the term. They are of
-- the variables of the pattern, and what they have is of each signature that the term is of.
pub record IsMatchedBy (pattern t : ProfiledTerm) (pairs : List (ℕ × ProfiledTerm)) : Type 0 where
  pub makes : substituted (binding (bare_pairs pairs)) (bare pattern) ≡ bare t
  pub paired : (n : ℕ) → NumberOccurs n (bare pattern) → (u : ProfiledTerm) × IsPair pairs n u
  pub occurring : (n : ℕ) (u : ProfiledTerm) → IsPair pairs n u → NumberOccurs n (bare pattern)
  pub of_signature : (signature : Signature) (n : ℕ) (u : ProfiledTerm) → IsOf signature t → IsPair pairs n u
      → IsOf signature u
