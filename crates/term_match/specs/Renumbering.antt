-- Variables with new numbers, by a list of old numbers with their new ones.
use Rattle.std.specs.Prelude.{ℕ, List, [], ◌∷◌, map, nat_eq, if◌then◌else◌}
use Rattle.sort_terms.specs.ProfiledTerm.{profiled_variable}
use Rattle.term_match.specs.ProfiledInstance.{ProfiledSubstitution}

-- The new number of a variable: that of the first pair with its number. A number without a pair stays.
abbrev pub new_number : List (ℕ × ℕ) → ℕ → ℕ → ℕ
new_number [] n s = n
new_number (pair ∷ pairs) n s = if nat_eq pair.0 n then pair.1 else new_number pairs n s

-- The substitution that gives each variable its new number and leaves its sort.
abbrev pub profiled_renaming : (ℕ → ℕ → ℕ) → ProfiledSubstitution
profiled_renaming number n s = profiled_variable (number n s) s

-- the old numbers
abbrev pub old_numbers : List (ℕ × ℕ) → List ℕ
old_numbers pairs = map (λ (pair : ℕ × ℕ). pair.0) pairs

-- the new numbers
abbrev pub new_numbers : List (ℕ × ℕ) → List ℕ
new_numbers pairs = map (λ (pair : ℕ × ℕ). pair.1) pairs
