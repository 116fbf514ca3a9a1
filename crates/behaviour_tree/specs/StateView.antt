-- The closed behaviours that nodes and states stand for: the values of their environments put in for free variables.
use Rattle.std.specs.Prelude.{ℕ, List, [], ◌∷◌, ◌++◌, map, Option, None, Some}
use Rattle.lotos_base.specs.Term.{Term}
use Rattle.lotos_base.specs.Substitution.{binding, without}
use Rattle.behaviour_semantics.specs.Behaviour as plain
use Rattle.behaviour_semantics.specs.Behaviour.{Behaviour, numbers_of}
use Rattle.behaviour_semantics.specs.Replacement.{with_values}
use Rattle.sort_terms.specs.ProfiledTerm.{ProfiledTerm}
use Rattle.sort_terms.specs.SortedView.{profiled_in, term_in}
use Rattle.sort_terms.specs.declared.equations.Variable.{Variable}
use Rattle.sort_terms.specs.declared.sorted.Sorted.{Sorted}
use Rattle.behaviour_tree.specs.BehaviourView.{behaviour_of, meet_of, terms_of, variables_of}
use Rattle.behaviour_tree.specs.BehaviourTerms.{profiles_in, profiles_of}
use Rattle.behaviour_tree.specs.declared.states.Node.{Node, Stop, Part, Call, Parallel', Hide', Enable', Disable', Relabel'}
use Rattle.behaviour_tree.specs.declared.states.State.{State}

-- the number of a variable
abbrev pub number_of : Variable → ℕ
number_of variable = variable.number

-- the variables of an environment by their numbers, with their values
abbrev pub environment_pair_of : ℕ × Sorted → ℕ × Term
environment_pair_of pair = (pair.0, term_in pair.1)

abbrev pub environment_of : List (ℕ × Sorted) → List (ℕ × Term)
environment_of pairs = map environment_pair_of pairs

-- the pair of a variable with its value, if there is one
abbrev pub pairs_with : ℕ → Option Sorted → List (ℕ × Sorted)
pairs_with number None = []
pairs_with number (Some value) = (number, value) ∷ []

-- the value of a pair, with its profiles
abbrev pub pair_profile : ℕ × Sorted → ProfiledTerm
pair_profile pair = profiled_in pair.1

-- the variables of an environment by their numbers, with their values and the profiles of these
abbrev pub pair_with_profile : ℕ × Sorted → ℕ × ProfiledTerm
pair_with_profile pair = (pair.0, profiled_in pair.1)

abbrev pub pairs_with_profiles : List (ℕ × Sorted) → List (ℕ × ProfiledTerm)
pairs_with_profiles pairs = map pair_with_profile pairs

-- the closed behaviour that a node stands for
abbrev pub stands_for : Node → Behaviour
stands_for Stop = plain.stop
stands_for (Part behaviour environment) = with_values (binding (environment_of environment.items)) (behaviour_of behaviour.value)
stands_for (Call process gates values) = plain.call process gates.items (terms_of values.items)
stands_for (Parallel' meet _ left _ right) = plain.parallel (meet_of meet) (stands_for left) (stands_for right)
stands_for (Hide' gates _ part) = plain.hide gates.items (stands_for part)
stands_for (Enable' _ left variables right environment) =
    plain.enable (stands_for left) (variables_of variables.items)
    (with_values (without (numbers_of (variables_of variables.items)) (binding (environment_of environment.items)))
    (behaviour_of right.value))
stands_for (Disable' _ left _ right) = plain.disable (stands_for left) (stands_for right)
stands_for (Relabel' pairs _ part) = plain.relabel pairs.items (stands_for part)

-- the closed behaviour that a state stands for
abbrev pub state_of : State → Behaviour
state_of state = stands_for state.node

-- the terms of a node, those of its behaviours before the values of their environments
abbrev pub node_profiles : Node → List ProfiledTerm
node_profiles Stop = []
node_profiles (Part behaviour environment) = profiles_in behaviour.value ++ map pair_profile environment.items
node_profiles (Call _ _ values) = profiles_of values.items
node_profiles (Parallel' _ _ left _ right) = node_profiles left ++ node_profiles right
node_profiles (Hide' _ _ part) = node_profiles part
node_profiles (Enable' _ left _ right environment) =
    node_profiles left ++ profiles_in right.value ++ map pair_profile environment.items
node_profiles (Disable' _ left _ right) = node_profiles left ++ node_profiles right
node_profiles (Relabel' _ _ part) = node_profiles part
