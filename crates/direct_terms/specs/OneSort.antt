-- Whether a variable number has one sort, by tests that compute.
use Rattle.std.specs.Prelude.{ℕ, Bool, true, nat_eq, ◌&&◌, if◌then◌else◌}
use Rattle.sort_terms.specs.ProfiledTerm.{ProfiledTerm, ProfiledTerms, profiled_variable, profiled_node, no_profiled_terms, profiled_term_then}

abbrev mutual
  -- Whether the variable number has no other sort in the term.
  pub keeps_sort : ℕ → ℕ → ProfiledTerm → Bool
  keeps_sort n s (profiled_variable m r) = if nat_eq m n then nat_eq r s else true
  keeps_sort n s (profiled_node f operation ts) = all_keep_sort n s ts

  -- The same of each term of a list.
  pub all_keep_sort : ℕ → ℕ → ProfiledTerms → Bool
  all_keep_sort n s no_profiled_terms = true
  all_keep_sort n s (profiled_term_then t ts) = keeps_sort n s t && all_keep_sort n s ts

abbrev mutual
  -- Whether each variable of the last term has in the others, where it occurs, the same sort.
  pub agrees : ProfiledTerm → ProfiledTerm → ProfiledTerm → Bool
  agrees left right (profiled_variable n s) = keeps_sort n s left && keeps_sort n s right
  agrees left right (profiled_node f operation ts) = all_agree left right ts

  -- The same of each term of a list.
  pub all_agree : ProfiledTerm → ProfiledTerm → ProfiledTerms → Bool
  all_agree left right no_profiled_terms = true
  all_agree left right (profiled_term_then t ts) = agrees left right t && all_agree left right ts
