-- What a node holds: its form, its lists, and the behaviours and nodes below it, with all their places.
use Rattle.std.specs.Prelude.{ℕ, List}
use Rattle.lotos_base.specs.Equation as equation
use Rattle.behaviour_semantics.specs.Behaviour.{SynchronisationSet}
use Rattle.sort_terms.specs.ProfiledTerm.{ProfiledTerm}
use Rattle.behaviour_tree.specs.BehaviourView.{meet_of, variables_of}
use Rattle.behaviour_tree.specs.BehaviourTerms.{profiles_of}
use Rattle.behaviour_tree.specs.StateView.{pairs_with_profiles}
use Rattle.behaviour_tree.specs.declared.behaviours.Beh.{Beh}
use Rattle.behaviour_tree.specs.declared.states.Node.{Node, Stop, Part, Call, Parallel', Hide', Enable', Disable', Relabel'}

-- a node by its form; the behaviours and nodes below it are those of the code, so that nothing of them is left out
pub data NodeContent : Type 0 where
  stop_node : NodeContent
  part_node : (behaviour : Beh) (environment : List (ℕ × ProfiledTerm)) → NodeContent
  call_node : (process : ℕ) (gates : List ℕ) (values : List ProfiledTerm) → NodeContent
  parallel_node : (meet : SynchronisationSet) (left right : Node) → NodeContent
  hide_node : (gates : List ℕ) (part : Node) → NodeContent
  enable_node : (left : Node) (variables : List equation.Variable) (right : Beh) (environment : List (ℕ × ProfiledTerm)) → NodeContent
  disable_node : (left right : Node) → NodeContent
  relabel_node : (pairs : List (ℕ × ℕ)) (part : Node) → NodeContent

-- what the node holds
abbrev pub content_of : Node → NodeContent
content_of Stop = stop_node
content_of (Part behaviour environment) = part_node behaviour.value (pairs_with_profiles environment.items)
content_of (Call process gates values) = call_node process gates.items (profiles_of values.items)
content_of (Parallel' meet _ left _ right) = parallel_node (meet_of meet) left right
content_of (Hide' gates _ part) = hide_node gates.items part
content_of (Enable' _ left variables right environment) =
    enable_node left (variables_of variables.items) right.value (pairs_with_profiles environment.items)
content_of (Disable' _ left _ right) = disable_node left right
content_of (Relabel' pairs _ part) = relabel_node pairs.items part
