-- How a pattern is matched, step by step: from left to right, with the first place of a variable deciding what is put
-- for it. What this search finds is said by the laws and by the contracts of the public functions.
use Rattle.std.specs.Prelude.{ℕ, List, [], ◌∷◌, ◌++◌, Option, None, Some, nat_eq, if◌then◌else◌}
use Rattle.std.specs.Option.{option_and_then}
use Rattle.lotos_base.specs.Tests.{term_eq}
use Rattle.sort_terms.specs.ProfiledTerm.{ProfiledTerm, ProfiledTerms, profiled_variable, profiled_node, no_profiled_terms, profiled_term_then, bare}

-- what the first pair with the number has
abbrev pub looked_up : ℕ → List (ℕ × ProfiledTerm) → Option ProfiledTerm
looked_up n [] = None
looked_up n (pair ∷ pairs) = if nat_eq pair.0 n then Some pair.1 else looked_up n pairs

-- the pairs at a variable: the term has to be what the variable has already, if it has something
abbrev pub bound : ℕ → ProfiledTerm → List (ℕ × ProfiledTerm) → Option ProfiledTerm → Option (List (ℕ × ProfiledTerm))
bound n t found None = Some (found ++ (n, t) ∷ [])
bound n t found (Some u) = if term_eq (bare u) (bare t) then Some found else None

abbrev mutual
  -- the pairs found before and those of the pattern's new variables, if the pattern fits the term
  pub searched : ProfiledTerm → ProfiledTerm → List (ℕ × ProfiledTerm) → Option (List (ℕ × ProfiledTerm))
  searched (profiled_variable n s) t found = bound n t found (looked_up n found)
  searched (profiled_node f operation ls) (profiled_variable m r) found = None
  searched (profiled_node f operation ls) (profiled_node g other ts) found = if nat_eq f g then all_searched ls ts found else None

  -- the same for the patterns and terms of two lists
  pub all_searched : ProfiledTerms → ProfiledTerms → List (ℕ × ProfiledTerm) → Option (List (ℕ × ProfiledTerm))
  all_searched no_profiled_terms no_profiled_terms found = Some found
  all_searched no_profiled_terms (profiled_term_then t ts) found = None
  all_searched (profiled_term_then l ls) no_profiled_terms found = None
  all_searched (profiled_term_then l ls) (profiled_term_then t ts) found = option_and_then (all_searched ls ts) (searched l t found)
