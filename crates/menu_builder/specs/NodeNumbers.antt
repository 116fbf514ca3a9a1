-- A number above all that a node binds or gives values.
use Rattle.std.specs.Prelude.{◌≤◌, ℕ, max}
use Rattle.behaviour_semantics.specs.Draft.{above, above_variables}
use Rattle.term_match.specs.SubstView.{profiled_pairs}
use Rattle.behaviour_tree.specs.BehaviourView.{behaviour_of, variables_of}
use Rattle.behaviour_tree.specs.StateView.{stands_for}
use Rattle.behaviour_tree.specs.declared.states.Node.{Node, Stop, Part, Call, Parallel', Hide', Enable', Disable', Relabel'}
use Rattle.menu_builder.specs.ClosedParts.{variables_given}

-- a number above those of the variables of the node
abbrev pub above_node : Node → ℕ
above_node Stop = 0
above_node (Part behaviour environment) =
    max (above_variables (variables_given (profiled_pairs environment.items))) (above (behaviour_of behaviour.value))
above_node (Call process gates values) = 0
above_node (Parallel' meet _ left _ right) = max (above_node left) (above_node right)
above_node (Hide' gates _ part) = above_node part
above_node (Enable' _ left variables right environment) =
    max (above_node left) (max (above_variables (variables_of variables.items)) (above (behaviour_of right.value)))
above_node (Disable' _ left _ right) = max (above_node left) (above_node right)
above_node (Relabel' pairs _ part) = above_node part

-- it is above all that the closed behaviour binds that the node stands for
abbrev pub NodesStandBelow : Type 0
NodesStandBelow = (node : Node) → above (stands_for node) ≤ above_node node
