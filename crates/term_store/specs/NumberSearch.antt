-- How a pattern is matched with a term that is kept, by numbers: from left to right, with the first place of a variable
-- deciding what is put for it.
use Rattle.std.specs.Prelude.{ℕ, List, [], ◌∷◌, ◌++◌, Bool, Option, None, Some, nat_eq, if◌then◌else◌}
use Rattle.std.specs.Option.{option_and_then}
use Rattle.std.proofs.Common.{get_or}
use Rattle.sort_terms.specs.ProfiledTerm.{ProfiledTerm, ProfiledTerms, profiled_variable, profiled_node, no_profiled_terms, profiled_term_then}
use Rattle.term_store.specs.Cells.{operation_in}

-- what the first pair with the variable has
abbrev pub number_under : ℕ → List (ℕ × ℕ) → Option ℕ
number_under n [] = None
number_under n (pair ∷ pairs) = if nat_eq pair.0 n then Some pair.1 else number_under n pairs

-- the pairs at a variable: the term has to be what the variable has already, if it has something
abbrev pub number_bound : ℕ → ℕ → List (ℕ × ℕ) → Option ℕ → Option (List (ℕ × ℕ))
number_bound n m found None = Some (found ++ (n, m) ∷ [])
number_bound n m found (Some k) = if nat_eq k m then Some found else None

-- the pairs, if the pattern fits
abbrev pub found_if : Bool → List (ℕ × ℕ) → Option (List (ℕ × ℕ))
found_if fits pairs = if fits then Some pairs else None

-- the numbers of the arguments, where the operation has this number
abbrev pub arguments_under : ℕ → Option (ℕ × List ℕ) → Option (List ℕ)
arguments_under f None = None
arguments_under f (Some found) = if nat_eq found.0 f then Some found.1 else None

abbrev mutual
  -- the pairs found before and those of the pattern's new variables, if the pattern fits the term with the number
  pub number_searched : List (List ℕ) → ProfiledTerm → ℕ → List (ℕ × ℕ) → Option (List (ℕ × ℕ))
  number_searched keys (profiled_variable n s) m found = number_bound n m found (number_under n found)
  number_searched keys (profiled_node f operation ls) m found =
      option_and_then (λ ns. all_number_searched keys ls ns found) (arguments_under f (operation_in (get_or keys m [])))

  -- the same for the patterns of a list and the terms with these numbers
  pub all_number_searched : List (List ℕ) → ProfiledTerms → List ℕ → List (ℕ × ℕ) → Option (List (ℕ × ℕ))
  all_number_searched keys no_profiled_terms [] found = Some found
  all_number_searched keys no_profiled_terms (n ∷ ns) found = None
  all_number_searched keys (profiled_term_then l ls) [] found = None
  all_number_searched keys (profiled_term_then l ls) (n ∷ ns) found =
      option_and_then (all_number_searched keys ls ns) (number_searched keys l n found)
