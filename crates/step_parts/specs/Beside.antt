-- Nodes side by side, grouped to the right: one and those behind it, if there are any.
use Rattle.std.specs.Prelude.{◌≡◌, List, [], ◌∷◌, Option, None, Some}
use Rattle.behaviour_semantics.specs.Behaviour.{Behaviour, SynchronisationSet}
use Rattle.behaviour_semantics.specs.Rule.{side_by_side}
use Rattle.sort_terms.specs.ProfiledTerm.{ProfiledTerm}
use Rattle.behaviour_tree.specs.StateView.{node_profiles, stands_for}
use Rattle.behaviour_tree.specs.declared.states.Node.{Node}
use Rattle.step_parts.specs.TargetNodes.{HasClosedParts}

-- no node for no behaviours, and else a node that stands for all of them side by side
abbrev pub StandsBeside : SynchronisationSet → Option Node → List Behaviour → Type 0
StandsBeside meet None behaviours = behaviours ≡ []
StandsBeside meet (Some node) [] = ⊥
StandsBeside meet (Some node) (b ∷ behaviours) = stands_for node ≡ side_by_side meet (b ∷ behaviours)

-- the terms of the node, if there is one
abbrev pub rest_profiles : Option Node → List ProfiledTerm
rest_profiles None = []
rest_profiles (Some node) = node_profiles node

-- each environment of the node closes its behaviour
abbrev pub HasClosedRest : Option Node → Type 0
HasClosedRest None = Unit {0}
HasClosedRest (Some node) = HasClosedParts node
