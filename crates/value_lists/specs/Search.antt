-- How values are found, size by size: each operation is tried on each list of smaller values that it can have for its
-- arguments, and what no rule matches is kept. What is found so is said by the contracts and laws of public functions.
use Rattle.std.specs.Prelude.{ℕ, zero, suc, ◌+◌, ◌-◌, List, [], ◌∷◌, ◌++◌, length, Bool, nat_eq, nat_le, ◌&&◌, if◌then◌else◌}
use Rattle.std.specs.List.{flat_map}
use Rattle.lotos_base.specs.Signature.{Operation}
use Rattle.sort_terms.specs.ProfiledTerm.{ProfiledTerm, profiled_node, bare, head_sort}
use Rattle.sort_terms.specs.TermView.{profiled_terms}
use Rattle.value_lists.specs.TermOrder.{term_size}

-- What one operation is tried on: the smaller values, with the operation and its number; and which terms are kept.
pub record Trial : Type 0 where
  pub keeps : ProfiledTerm → Bool
  pub smaller : List ProfiledTerm
  pub number : ℕ
  pub operation : Operation

-- the operation on these arguments
abbrev pub trial_applied : Trial → List ProfiledTerm → ProfiledTerm
trial_applied trial arguments = profiled_node trial.number trial.operation (profiled_terms arguments)

-- whether the term can be the next argument: it has the sort, and so many of what is left for the arguments are left for
-- those behind it, each of which has one operation at least
abbrev pub suits : ℕ → ℕ → ℕ → ProfiledTerm → Bool
suits sort behind left t = nat_eq (head_sort t) sort && nat_le (term_size (bare t) + behind) left

-- the operation on the arguments that are chosen already, if nothing is left for others and it is kept
abbrev pub kept : Trial → List ProfiledTerm → ℕ → List ProfiledTerm
kept trial chosen left =
    if nat_eq left 0 then (if trial.keeps (trial_applied trial chosen) then trial_applied trial chosen ∷ [] else []) else []

-- what is found where some arguments are chosen already, with the sorts of those behind them, whose sizes are together
-- what is left
abbrev pub found_behind : Trial → List ProfiledTerm → List ℕ → ℕ → List ProfiledTerm
found_behind trial chosen [] left = kept trial chosen left
found_behind trial chosen (sort ∷ sorts) left =
    flat_map (λ (t : ProfiledTerm).
    if suits sort (length sorts) left t then found_behind trial (chosen ++ t ∷ []) sorts (left - term_size (bare t)) else [])
    trial.smaller

-- what is found with this term as the next argument, if it suits
abbrev pub found_with : Trial → List ProfiledTerm → ℕ → List ℕ → ℕ → ProfiledTerm → List ProfiledTerm
found_with trial chosen sort sorts left t =
    if suits sort (length sorts) left t then found_behind trial (chosen ++ t ∷ []) sorts (left - term_size (bare t)) else []

-- the same where the sort of the next argument is the first of these, if there is one
abbrev pub found_by : Trial → List ProfiledTerm → List ℕ → ℕ → ProfiledTerm → List ProfiledTerm
found_by trial chosen [] left t = []
found_by trial chosen (sort ∷ sorts) left t = found_with trial chosen sort sorts left t

-- what is found for the operation, with arguments that have this size together
abbrev pub found_for : Trial → ℕ → List ProfiledTerm
found_for trial left = found_behind trial [] trial.operation.arguments left

-- what is found for the operations of a list, of which the first one has this number
abbrev pub found_from : (ProfiledTerm → Bool) → List ProfiledTerm → ℕ → ℕ → List Operation → List ProfiledTerm
found_from keeps smaller left f [] = []
found_from keeps smaller left f (operation ∷ operations) =
    found_for (record { keeps = keeps; smaller = smaller; number = f; operation = operation }) left
    ++ found_from keeps smaller left (suc f) operations

-- the values with one operation more, behind those with at most so many
abbrev pub with_next_operation : (ProfiledTerm → Bool) → List Operation → ℕ → List ProfiledTerm → List ProfiledTerm
with_next_operation keeps operations size smaller = smaller ++ found_from keeps smaller size 0 operations

-- the values with at most so many operations
abbrev pub found_up_to : (ProfiledTerm → Bool) → List Operation → ℕ → List ProfiledTerm
found_up_to keeps operations zero = []
found_up_to keeps operations (suc size) = with_next_operation keeps operations size (found_up_to keeps operations size)
