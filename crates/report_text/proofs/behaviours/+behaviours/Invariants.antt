use Rattle.std.proofs.Common.{◌*◌, ◌+◌, map, option_map}
use Rattle.behaviour_semantics.specs.Behaviour.{action, choice, choose_gate, choose_value, disable, enable, guard, hide, inner_action, let_be, par_gate, parallel}
use Rattle.sort_terms.specs.EquationView.{variable_of}
use Rattle.behaviour_tree.specs.BehaviourView.{behaviour_of, let_of, meet_of, offer_of, test_of, variables_of}
use Rattle.behaviour_instances.proofs.WeightLemmas.{weight}
use Rattle.report_text.proofs.behaviours.+behaviours.Given as goal

abbrev pub decreases-push_behaviour : goal.decreases-push_behaviour
decreases-push_behaviour l = 3 * weight (behaviour_of l.behaviour.now) + 1

abbrev pub decreases-push_unit : goal.decreases-push_unit
decreases-push_unit l = 3 * weight (behaviour_of l.part.now) + 2

abbrev pub decreases-push_prefix : goal.decreases-push_prefix
decreases-push_prefix l =
    3 * weight (action l.gate (map offer_of l.offers.now.items) (option_map test_of l.test.now) (behaviour_of l.next.now.value))

abbrev pub decreases-push_inner : goal.decreases-push_inner
decreases-push_inner l =
    3 * weight (inner_action (behaviour_of l.next.now.value))

abbrev pub decreases-push_guarded : goal.decreases-push_guarded
decreases-push_guarded l =
    3 * weight (guard (test_of l.test.now) (behaviour_of l.next.now.value))

abbrev pub decreases-push_sides : goal.decreases-push_sides
decreases-push_sides l =
    3 * weight (choice (behaviour_of l.left.now.value) (behaviour_of l.right.now.value))

abbrev pub decreases-push_parallel : goal.decreases-push_parallel
decreases-push_parallel l =
    3 * weight (parallel (meet_of l.meet.now) (behaviour_of l.left.now.value) (behaviour_of l.right.now.value))

abbrev pub decreases-push_hidden : goal.decreases-push_hidden
decreases-push_hidden l =
    3 * weight (hide l.gates.now.items (behaviour_of l.next.now.value))

abbrev pub decreases-push_enabling : goal.decreases-push_enabling
decreases-push_enabling l =
    3 * weight (enable (behaviour_of l.left.now.value) (variables_of l.variables.now.items) (behaviour_of l.right.now.value))

abbrev pub decreases-push_disabling : goal.decreases-push_disabling
decreases-push_disabling l =
    3 * weight (disable (behaviour_of l.left.now.value) (behaviour_of l.right.now.value))

abbrev pub decreases-push_bound : goal.decreases-push_bound
decreases-push_bound l =
    3 * weight (let_be (map let_of l.bindings.now.items) (behaviour_of l.next.now.value))

abbrev pub decreases-push_chosen : goal.decreases-push_chosen
decreases-push_chosen l =
    3 * weight (choose_value (variable_of l.variable.now) (behaviour_of l.next.now.value))

abbrev pub decreases-push_at_gate : goal.decreases-push_at_gate
decreases-push_at_gate l =
    3 * weight (choose_gate l.gate l.gates.now.items (behaviour_of l.next.now.value))

abbrev pub decreases-push_copies : goal.decreases-push_copies
decreases-push_copies l =
    3 * weight (par_gate l.gate l.gates.now.items (meet_of l.meet.now) (behaviour_of l.next.now.value))
