-- What the variables of a pattern have, as terms that the code owns.
use Rattle.std.specs.Prelude.{◌≡◌, ℕ, List, [], Some, map}
use Rattle.sort_terms.specs.ProfiledTerm.{ProfiledTerm, ProfiledTerms}
use Rattle.sort_terms.specs.TermView.{profiled_of}
use Rattle.sort_terms.specs.declared.terms.Term.{Term}
use Rattle.term_match.specs.ProfiledInstance.{profiled_binding, profiled_instance}
use Rattle.term_match.specs.Search.{looked_up, searched, all_searched, bound}

-- a pair of the code
abbrev pub owned_pair : ℕ × Term → ℕ × ProfiledTerm
owned_pair pair = (pair.0, profiled_of pair.1)

-- the pairs of the code
abbrev pub owned_pairs : List (ℕ × Term) → List (ℕ × ProfiledTerm)
owned_pairs pairs = map owned_pair pairs

-- The pairs are those that the search for the pattern finds, if it finds some.
abbrev pub AreTaken : ProfiledTerm → ProfiledTerm → List (ℕ × ProfiledTerm) → List (ℕ × ProfiledTerm) → Type 0
AreTaken pattern t before after = (found : List (ℕ × ProfiledTerm)) → searched pattern t before ≡ Some found → after ≡ found

-- The same for the patterns and terms of two lists.
abbrev pub AreAllTaken : ProfiledTerms → ProfiledTerms → List (ℕ × ProfiledTerm) → List (ℕ × ProfiledTerm) → Type 0
AreAllTaken patterns ts before after = (found : List (ℕ × ProfiledTerm)) → all_searched patterns ts before ≡ Some found → after ≡ found

-- The same at a variable.
abbrev pub IsTakenAtVariable : ℕ → ProfiledTerm → List (ℕ × ProfiledTerm) → List (ℕ × ProfiledTerm) → Type 0
IsTakenAtVariable n t before after = (found : List (ℕ × ProfiledTerm)) → bound n t before (looked_up n before) ≡ Some found → after ≡ found

-- The term is the instance of the right side by what the variables of the left side have in the term that it matches.
abbrev pub IsRewritten : ProfiledTerm → ProfiledTerm → ProfiledTerm → ProfiledTerm → Type 0
IsRewritten left right t made = (found : List (ℕ × ProfiledTerm)) → searched left t [] ≡ Some found
    → made ≡ profiled_instance (profiled_binding found) right
