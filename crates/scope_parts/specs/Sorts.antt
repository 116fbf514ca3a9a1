-- Sorts by their names, variables with their sorts, and the constant `true` of the sort `Bool`.
use Rattle.std.specs.Prelude.{ℕ, suc, Bool, ◌&&◌, nat_eq, List, [], ◌∷◌, length, Option, None, Some, map, codes, if◌then◌else◌}
use Rattle.lotos_base.specs.Signature.{Signature, Sort, Operation, prefix_form}
use Rattle.lotos_base.specs.Twins.{form_eq}
use Rattle.lotos_base.specs.Equation.{Place, Variable}
use Rattle.lotos_base.specs.WrittenTerm.{PlacedName}
use Rattle.syntax_trees.specs.WrittenVariable.{WrittenVariable}
use Rattle.sort_terms.specs.ReadingOutcome.{one_name}
use Rattle.scope_parts.specs.ScopeFault.{unknown_sort}
use Rattle.scope_parts.specs.Resolution.{Resolution, resolved, faulty, and_then, put_in_front, beside}
use Rattle.scope_parts.specs.Scope.{first_double}

-- the number of the sort of this name, the sorts being numbered from a number on
abbrev pub sort_from : ℕ → List Sort → List ℕ → Option ℕ
sort_from first [] name = None
sort_from first (sort ∷ sorts) name = if one_name sort.name name then Some first else sort_from (suc first) sorts name

abbrev pub sort_named : Signature → List ℕ → Option ℕ
sort_named signature name = sort_from 0 signature.sorts name

-- the sort, or the fault that the data lack it
abbrev pub found_sort : Place → List ℕ → Option ℕ → Resolution ℕ
found_sort place name None = faulty (unknown_sort place name)
found_sort place name (Some sort) = resolved sort

abbrev pub sort_at : Signature → Place → List ℕ → Resolution ℕ
sort_at signature place name = found_sort place name (sort_named signature name)

-- the sorts of a list
abbrev pub sorts_at : Signature → List PlacedName → Resolution (List ℕ)
sorts_at signature [] = resolved []
sorts_at signature (sort ∷ sorts) =
    and_then (sort_at signature sort.place sort.name) (λ number. put_in_front number (sorts_at signature sorts))

-- a functionality: None for `noexit`, or the sorts of `exit`
abbrev pub functionality_at : Signature → Option (List PlacedName) → Resolution (Option (List ℕ))
functionality_at signature None = resolved None
functionality_at signature (Some sorts) = and_then (sorts_at signature sorts) (λ numbers. resolved (Some numbers))

-- a variable with its number
abbrev pub variable_at : Signature → ℕ → WrittenVariable → Resolution Variable
variable_at signature number variable =
    and_then (sort_at signature variable.sort_place variable.sort)
    (λ sort. resolved (record { name = variable.name; number = number; sort = sort }))

-- variables with their numbers from a number on
abbrev pub sorted_variables : Signature → ℕ → List WrittenVariable → Resolution (List Variable)
sorted_variables signature next [] = resolved []
sorted_variables signature next (variable ∷ variables) =
    and_then (variable_at signature next variable) (λ x. put_in_front x (sorted_variables signature (suc next) variables))

-- variables with their places
abbrev pub placed_variable : WrittenVariable → PlacedName
placed_variable variable = record { place = variable.place; name = variable.name }

abbrev pub placed_variables : List WrittenVariable → List PlacedName
placed_variables variables = map placed_variable variables

-- the variables that one list declares, in which no name may stand twice
abbrev pub variables_at : Signature → ℕ → List WrittenVariable → Resolution (List Variable)
variables_at signature next variables = beside (first_double (placed_variables variables)) (sorted_variables signature next variables)

-- the sorts of variables, None for one that the data lack
abbrev pub sorts_if : Signature → List WrittenVariable → List (Option ℕ)
sorts_if signature variables = map (λ (x : WrittenVariable). sort_named signature x.sort) variables

-- the sort `Bool` and the number of its constant `true`
pub record Truth : Type 0 where
  pub sort : ℕ
  pub constant : ℕ

-- whether the operation is a constant `true` of the sort
abbrev pub is_true : ℕ → Operation → Bool
is_true sort operation =
    (one_name operation.name (codes "true") && form_eq operation.form prefix_form)
    && (nat_eq (length operation.arguments) 0 && nat_eq operation.result sort)

-- the number of the first constant `true` of the sort, the operations being numbered from a number on
abbrev pub true_from : ℕ → ℕ → List Operation → Option Truth
true_from sort first [] = None
true_from sort first (operation ∷ operations) =
    if is_true sort operation then Some (record { sort = sort; constant = first }) else true_from sort (suc first) operations

abbrev pub true_of : Signature → Option ℕ → Option Truth
true_of signature None = None
true_of signature (Some sort) = true_from sort 0 signature.operations

-- `Bool` with its constant `true`, if the data have them
abbrev pub truth_in : Signature → Option Truth
truth_in signature = true_of signature (sort_named signature (codes "Bool"))
