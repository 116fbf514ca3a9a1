-- How many variables and operations terms with profiles have.
use Rattle.std.specs.Prelude.{ℕ, suc, ◌+◌}
use Rattle.sort_terms.specs.ProfiledTerm.{ProfiledTerm, ProfiledTerms, profiled_variable, profiled_node, no_profiled_terms, profiled_term_then}

abbrev mutual
  -- the variables and operations of a term
  pub profiled_size : ProfiledTerm → ℕ
  profiled_size (profiled_variable n s) = 1
  profiled_size (profiled_node f operation ts) = suc (profiled_sizes ts)

  -- those of the terms of a list
  pub profiled_sizes : ProfiledTerms → ℕ
  profiled_sizes no_profiled_terms = 0
  profiled_sizes (profiled_term_then t ts) = profiled_size t + profiled_sizes ts
