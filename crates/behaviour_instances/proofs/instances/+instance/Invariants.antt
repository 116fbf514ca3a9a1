use Rattle.std.proofs.Common.{◌*◌, ◌+◌, map, option_map}
use Rattle.behaviour_semantics.specs.Behaviour.{action, choice, choose_gate, choose_value, disable, enable, guard, hide, inner_action, let_be, par_gate, parallel}
use Rattle.sort_terms.specs.EquationView.{variable_of}
use Rattle.behaviour_tree.specs.BehaviourView.{behaviour_of, let_of, meet_of, offer_of, test_of, variables_of}
use Rattle.behaviour_instances.proofs.WeightLemmas.{weight}
use Rattle.behaviour_instances.proofs.instances.+instance.Given as goal

abbrev pub decreases-instance : goal.decreases-instance
decreases-instance l = 4 * weight (behaviour_of l.behaviour.now) + 1

abbrev pub decreases-action_instance : goal.decreases-action_instance
decreases-action_instance l =
    4 * weight (action l.gate (map offer_of l.offers.now.items) (option_map test_of l.test.now) (behaviour_of l.next.now.value))

abbrev pub decreases-shared_instance : goal.decreases-shared_instance
decreases-shared_instance l = 4 * weight (behaviour_of l.part.now.value) + 2

abbrev pub decreases-inside_instance : goal.decreases-inside_instance
decreases-inside_instance l = 4 * weight (behaviour_of l.part.now.value) + 3

abbrev pub decreases-both_instances : goal.decreases-both_instances
decreases-both_instances l = 4 * (weight (behaviour_of l.left.now.value) + weight (behaviour_of l.right.now.value)) + 3

abbrev pub decreases-action_below : goal.decreases-action_below
decreases-action_below l = 4 * weight (behaviour_of l.next.now.value) + 3

abbrev pub decreases-inner_instance : goal.decreases-inner_instance
decreases-inner_instance l = 4 * weight (inner_action (behaviour_of l.next.now.value))

abbrev pub decreases-guard_instance : goal.decreases-guard_instance
decreases-guard_instance l = 4 * weight (guard (test_of l.test.now) (behaviour_of l.next.now.value))

abbrev pub decreases-choice_instance : goal.decreases-choice_instance
decreases-choice_instance l = 4 * weight (choice (behaviour_of l.left.now.value) (behaviour_of l.right.now.value))

abbrev pub decreases-parallel_instance : goal.decreases-parallel_instance
decreases-parallel_instance l =
    4 * weight (parallel (meet_of l.meet.now) (behaviour_of l.left.now.value) (behaviour_of l.right.now.value))

abbrev pub decreases-disable_instance : goal.decreases-disable_instance
decreases-disable_instance l = 4 * weight (disable (behaviour_of l.left.now.value) (behaviour_of l.right.now.value))

abbrev pub decreases-hide_instance : goal.decreases-hide_instance
decreases-hide_instance l = 4 * weight (hide l.gates.now.items (behaviour_of l.next.now.value))

abbrev pub decreases-enable_instance : goal.decreases-enable_instance
decreases-enable_instance l =
    4 * weight (enable (behaviour_of l.left.now.value) (variables_of l.variables.now.items) (behaviour_of l.right.now.value))

abbrev pub decreases-let_instance : goal.decreases-let_instance
decreases-let_instance l = 4 * weight (let_be (map let_of l.bindings.now.items) (behaviour_of l.next.now.value))

abbrev pub decreases-value_instance : goal.decreases-value_instance
decreases-value_instance l = 4 * weight (choose_value (variable_of l.variable.now) (behaviour_of l.next.now.value))

abbrev pub decreases-gate_instance : goal.decreases-gate_instance
decreases-gate_instance l = 4 * weight (choose_gate l.gate l.gates.now.items (behaviour_of l.next.now.value))

abbrev pub decreases-par_instance : goal.decreases-par_instance
decreases-par_instance l =
    4 * weight (par_gate l.gate l.gates.now.items (meet_of l.meet.now) (behaviour_of l.next.now.value))
