use Rattle.std.proofs.Common.{◌*◌, ◌+◌, suc}
use Rattle.behaviour_semantics.specs.Behaviour.{disable, hide, parallel, relabel}
use Rattle.behaviour_tree.specs.BehaviourView.{meet_of}
use Rattle.behaviour_tree.specs.StateView.{stands_for}
use Rattle.behaviour_instances.proofs.WeightLemmas.{weight}
use Rattle.report_text.proofs.nodes.+nodes.Given as goal

abbrev pub decreases-push_node : goal.decreases-push_node
decreases-push_node l = 3 * weight (stands_for l.node.now) + 1

abbrev pub decreases-push_node_unit : goal.decreases-push_node_unit
decreases-push_node_unit l = 3 * weight (stands_for l.part.now) + 2

abbrev pub decreases-push_enabling : goal.decreases-push_enabling
decreases-push_enabling l = 3 * suc (weight (stands_for l.left.now.value))

abbrev pub decreases-push_parallel : goal.decreases-push_parallel
decreases-push_parallel l = 3 * weight (parallel (meet_of l.meet.now) (stands_for l.left.now.value) (stands_for l.right.now.value))

abbrev pub decreases-push_hidden : goal.decreases-push_hidden
decreases-push_hidden l = 3 * weight (hide l.gates.now.items (stands_for l.part.now.value))

abbrev pub decreases-push_disabling : goal.decreases-push_disabling
decreases-push_disabling l = 3 * weight (disable (stands_for l.left.now.value) (stands_for l.right.now.value))

abbrev pub decreases-push_relabelled : goal.decreases-push_relabelled
decreases-push_relabelled l = 3 * weight (relabel l.pairs.now.items (stands_for l.part.now.value))
