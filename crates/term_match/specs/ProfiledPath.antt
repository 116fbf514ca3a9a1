-- Paths in terms that carry profiles. A path lists argument positions, counted from 0, from the root down.
use Rattle.std.specs.Prelude.{◌≡◌, ℕ, zero, suc, List, [], ◌∷◌, Option, None, Some, nat_eq, if◌then◌else◌}
use Rattle.std.specs.Option.{option_map, option_and_then}
use Rattle.sort_terms.specs.ProfiledTerm.{ProfiledTerm, ProfiledTerms, profiled_variable, profiled_node, no_profiled_terms, profiled_term_then, head_sort}

-- The argument at a position, if there is one.
abbrev pub profiled_argument_at : ℕ → ProfiledTerms → Option ProfiledTerm
profiled_argument_at k no_profiled_terms = None
profiled_argument_at zero (profiled_term_then t ts) = Some t
profiled_argument_at (suc k) (profiled_term_then t ts) = profiled_argument_at k ts

-- The arguments with the one at a position replaced; where there is none, the arguments as they are.
abbrev pub with_profiled_argument : ℕ → ProfiledTerm → ProfiledTerms → ProfiledTerms
with_profiled_argument k part no_profiled_terms = no_profiled_terms
with_profiled_argument zero part (profiled_term_then t ts) = profiled_term_then part ts
with_profiled_argument (suc k) part (profiled_term_then t ts) = profiled_term_then t (with_profiled_argument k part ts)

-- The subterm that a path names, if the path leads to one.
abbrev pub profiled_subterm : List ℕ → ProfiledTerm → Option ProfiledTerm
profiled_subterm [] t = Some t
profiled_subterm (k ∷ path) (profiled_variable n s) = None
profiled_subterm (k ∷ path) (profiled_node f operation ts) =
    option_and_then (λ t. profiled_subterm path t) (profiled_argument_at k ts)

-- The term with a part put at a path and all else left, if the path leads to a subterm.
abbrev pub profiled_put_at : List ℕ → ProfiledTerm → ProfiledTerm → Option ProfiledTerm
profiled_put_at [] part t = Some part
profiled_put_at (k ∷ path) part (profiled_variable n s) = None
profiled_put_at (k ∷ path) part (profiled_node f operation ts) =
    option_map (λ t. profiled_node f operation (with_profiled_argument k t ts))
    (option_and_then (λ t. profiled_put_at path part t) (profiled_argument_at k ts))

-- the term, where the old part has the sort of the new one
abbrev pub where_sorts_agree : ProfiledTerm → Option ProfiledTerm → ProfiledTerm → Option ProfiledTerm
where_sorts_agree part whole old = if nat_eq (head_sort old) (head_sort part) then whole else None

-- The term with a part put at a path for a subterm of the same sort. It is nothing where the path leads to no subterm
-- and where the sorts differ.
abbrev pub with_part_replaced : List ℕ → ProfiledTerm → ProfiledTerm → Option ProfiledTerm
with_part_replaced path part t = option_and_then (where_sorts_agree part (profiled_put_at path part t)) (profiled_subterm path t)

-- The path leads to a subterm of the sort of the part.
pub record LeadsToSort (path : List ℕ) (part t : ProfiledTerm) : Type 0 where
  pub old : ProfiledTerm
  pub is_there : profiled_subterm path t ≡ Some old
  pub one_sort : head_sort old ≡ head_sort part
