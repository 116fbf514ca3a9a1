-- Which equation is the same as the statement of a lemma up to the names of variables: a search makes the one the other, and what
-- it finds for the variables are variables of the same sorts, for different ones different ones.
use Rattle.std.specs.Prelude.{◌≡◌, ℕ, List, [], ◌∷◌, ◌++◌, Bool, true, false, not, ◌&&◌, nat_eq, if◌then◌else◌, Option, None, Some, slice_get}
use Rattle.sort_terms.specs.ProfiledTerm.{ProfiledTerm, profiled_variable, profiled_node}

-- whether this is the sort that is listed
abbrev pub is_listed_sort : Option ℕ → ℕ → Bool
is_listed_sort None sort = false
is_listed_sort (Some listed) sort = nat_eq listed sort

-- whether the variable with this number and sort is among those
abbrev pub is_variable : ℕ × ℕ → ℕ → ℕ → Bool
is_variable known number sort = nat_eq known.0 number && nat_eq known.1 sort

abbrev pub is_seen : List (ℕ × ℕ) → ℕ → ℕ → Bool
is_seen [] number sort = false
is_seen (known ∷ seen) number sort = if is_variable known number sort then true else is_seen seen number sort

-- whether what is found for the variable with this number is a variable of its sort, which is listed at its number, and none of
-- those that were seen
abbrev pub is_renamed : (sorts : List ℕ) (seen : List (ℕ × ℕ)) → ℕ × ProfiledTerm → Bool
is_renamed sorts seen (n, profiled_variable m s) = if is_listed_sort (slice_get sorts n) s then not (is_seen seen m s) else false
is_renamed sorts seen (n, profiled_node f operation ts) = false

-- those that were seen, with what is found there
abbrev pub seen_with : List (ℕ × ℕ) → ProfiledTerm → List (ℕ × ℕ)
seen_with seen (profiled_variable m s) = seen ++ (m, s) ∷ []
seen_with seen (profiled_node f operation ts) = seen

-- whether that holds of each pair that is found
abbrev pub are_renamed : (sorts : List ℕ) (seen : List (ℕ × ℕ)) → List (ℕ × ProfiledTerm) → Bool
are_renamed sorts seen [] = true
are_renamed sorts seen (pair ∷ pairs) =
    if is_renamed sorts seen pair then are_renamed sorts (seen_with seen pair.1) pairs else false
