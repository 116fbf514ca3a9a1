-- New variables, as terms with profiles.
use Rattle.std.specs.Prelude.{ℕ, suc, List, [], ◌∷◌}
use Rattle.sort_terms.specs.ProfiledTerm.{ProfiledTerm, ProfiledTerms, profiled_variable}
use Rattle.sort_terms.specs.TermView.{profiled_terms}

-- Variables of these sorts, numbered from this number on.
abbrev pub variable_list : ℕ → List ℕ → List ProfiledTerm
variable_list next [] = []
variable_list next (s ∷ ss) = profiled_variable next s ∷ variable_list (suc next) ss

-- The same, as arguments.
abbrev pub profiled_variables : ℕ → List ℕ → ProfiledTerms
profiled_variables next ss = profiled_terms (variable_list next ss)
