-- Sides of behaviours, and the right side of `>>`, as a walk goes through them.
use Rattle.std.specs.Prelude.{List, map, ◌++◌}
use Rattle.lotos_base.specs.Substitution.{binding, without}
use Rattle.behaviour_semantics.specs.Behaviour.{Behaviour, enable, numbers_of}
use Rattle.behaviour_semantics.specs.Replacement.{with_values}
use Rattle.sort_terms.specs.ProfiledTerm.{ProfiledTerm}
use Rattle.behaviour_tree.specs.BehaviourTerms.{profiles_in}
use Rattle.behaviour_tree.specs.BehaviourView.{behaviour_of, variables_of}
use Rattle.behaviour_tree.specs.Closed.{IsClosedNode, IsClosedUnder}
use Rattle.behaviour_tree.specs.StateView.{environment_of, node_profiles, pair_profile, stands_for}
use Rattle.step_taker.specs.declared.sides.Following.{Following}
use Rattle.step_taker.specs.declared.sides.Side.{Side}
use Rattle.step_taker.specs.declared.sides.Side.TheVariants as variant

-- the closed behaviour that the side stands for
abbrev pub side_of : Side → Behaviour
side_of (variant.Closed behaviour) = behaviour_of behaviour.now.value
side_of (variant.Standing node) = stands_for node.now.value

-- its terms
abbrev pub side_profiles : Side → List ProfiledTerm
side_profiles (variant.Closed behaviour) = profiles_in behaviour.now.value
side_profiles (variant.Standing node) = node_profiles node.now.value

-- a node there is a state
abbrev pub IsSideState : Side → Type 0
IsSideState (variant.Closed behaviour) = Unit {0}
IsSideState (variant.Standing node) = IsClosedNode node.now.value

-- the right side of `>>` with the values of its environment
abbrev pub followed : Following → Behaviour
followed side =
    with_values (without (numbers_of (variables_of side.variables.now.items)) (binding (environment_of side.environment.now.items)))
    (behaviour_of side.right.now.value)

-- the enabling with this left side
abbrev pub enabling_of : Behaviour → Following → Behaviour
enabling_of left side = enable left (variables_of side.variables.now.items) (followed side)

-- the terms of the right side, before the values of its environment
abbrev pub following_profiles : Following → List ProfiledTerm
following_profiles side = profiles_in side.right.now.value ++ map pair_profile side.environment.now.items

-- the environment closes the right side under its binder
abbrev pub IsFollowing : Following → Type 0
IsFollowing side =
    IsClosedUnder (variables_of side.variables.now.items) side.environment.now.items (behaviour_of side.right.now.value)
