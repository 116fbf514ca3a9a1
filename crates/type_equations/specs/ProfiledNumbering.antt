-- Terms with profiles whose variables get new numbers.
use Rattle.std.specs.Prelude.{ℕ, nat_eq, List}
use Rattle.sort_terms.specs.ProfiledTerm.{ProfiledTerm, ProfiledTerms, profiled_variable, profiled_node, no_profiled_terms, profiled_term_then}
use Rattle.type_definitions.specs.Presentation.{first_position}

abbrev mutual
  -- a term in which each variable has its number's position in the list as its number
  pub profiled_renumbered : List ℕ → ProfiledTerm → ProfiledTerm
  profiled_renumbered order (profiled_variable n s) = profiled_variable (first_position (nat_eq n) order) s
  profiled_renumbered order (profiled_node f operation ts) = profiled_node f operation (all_profiled_renumbered order ts)

  -- such terms, one by one
  pub all_profiled_renumbered : List ℕ → ProfiledTerms → ProfiledTerms
  all_profiled_renumbered order no_profiled_terms = no_profiled_terms
  all_profiled_renumbered order (profiled_term_then t ts) =
      profiled_term_then (profiled_renumbered order t) (all_profiled_renumbered order ts)
