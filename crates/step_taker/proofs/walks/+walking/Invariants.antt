use Rattle.behaviour_tree.specs.BehaviourView.{behaviour_of}
use Rattle.behaviour_tree.specs.MoveView.{shape_of}
use Rattle.behaviour_tree.specs.StateView.{stands_for}
use Rattle.step_taker.specs.Sides.{side_of}
use Rattle.step_taker.proofs.WeightLemmas.{form_weight, weight}
use Rattle.step_taker.proofs.walks.+walking.Given as goal

abbrev pub decreases-node_step : goal.decreases-node_step
decreases-node_step g l = weight (shape_of l.shape.now) (stands_for l.node.now) 3

abbrev pub decreases-beh_step : goal.decreases-beh_step
decreases-beh_step g l = weight (shape_of l.shape.now) (behaviour_of l.behaviour.now) 2

abbrev pub decreases-side_step : goal.decreases-side_step
decreases-side_step g l = weight (shape_of l.shape.now) (side_of l.side.now) 4

abbrev pub decreases-guard_step : goal.decreases-guard_step
decreases-guard_step g l = form_weight (shape_of l.shape.now)

abbrev pub decreases-choice_step : goal.decreases-choice_step
decreases-choice_step g l = form_weight (shape_of l.shape.now)

abbrev pub decreases-parallel_step : goal.decreases-parallel_step
decreases-parallel_step g l = form_weight (shape_of l.shape.now)

abbrev pub decreases-hide_step : goal.decreases-hide_step
decreases-hide_step g l = form_weight (shape_of l.shape.now)

abbrev pub decreases-enable_step : goal.decreases-enable_step
decreases-enable_step g l = form_weight (shape_of l.shape.now)

abbrev pub decreases-disable_step : goal.decreases-disable_step
decreases-disable_step g l = form_weight (shape_of l.shape.now)

abbrev pub decreases-let_step : goal.decreases-let_step
decreases-let_step g l = form_weight (shape_of l.shape.now)

abbrev pub decreases-value_step : goal.decreases-value_step
decreases-value_step g l = form_weight (shape_of l.shape.now)

abbrev pub decreases-gate_step : goal.decreases-gate_step
decreases-gate_step g l = form_weight (shape_of l.shape.now)

abbrev pub decreases-call_step : goal.decreases-call_step
decreases-call_step g l = form_weight (shape_of l.shape.now)

abbrev pub decreases-relabel_step : goal.decreases-relabel_step
decreases-relabel_step g l = form_weight (shape_of l.shape.now)
