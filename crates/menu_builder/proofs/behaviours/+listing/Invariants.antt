use Rattle.std.proofs.Common.{◌*◌, ◌+◌, suc, map}
use Rattle.behaviour_semantics.specs.Behaviour.{choice, choose_gate, choose_value, disable, guard, hide, let_be, parallel}
use Rattle.sort_terms.specs.EquationView.{variable_of}
use Rattle.behaviour_tree.specs.BehaviourView.{behaviour_of, let_of, meet_of, test_of}
use Rattle.behaviour_tree.specs.DefinitionView.{specification_of}
use Rattle.process_checks.specs.Ranks.{rank_in}
use Rattle.menu_builder.proofs.EffortLemmas.{effort, above_bodies}
use Rattle.menu_builder.proofs.behaviours.+listing.Given as goal

abbrev pub decreases-behaviour_moves : goal.decreases-behaviour_moves
decreases-behaviour_moves g l =
    3 * (2 * effort (rank_in l.ranks.now) (specification_of l.spec.now).processes (behaviour_of l.behaviour.now) + 1) + 1

abbrev pub decreases-guard_moves : goal.decreases-guard_moves
decreases-guard_moves g l =
    3 * (2 * effort (rank_in l.ranks.now) (specification_of l.spec.now).processes
    (guard (test_of l.test.now) (behaviour_of l.part.now))) + 1

abbrev pub decreases-choice_moves : goal.decreases-choice_moves
decreases-choice_moves g l =
    3 * (2 * effort (rank_in l.ranks.now) (specification_of l.spec.now).processes
    (choice (behaviour_of l.left.now) (behaviour_of l.right.now))) + 1

abbrev pub decreases-parallel_moves : goal.decreases-parallel_moves
decreases-parallel_moves g l =
    3 * (2 * effort (rank_in l.ranks.now) (specification_of l.spec.now).processes
    (parallel (meet_of l.meet.now) (behaviour_of l.left.now) (behaviour_of l.right.now))) + 1

abbrev pub decreases-hide_moves : goal.decreases-hide_moves
decreases-hide_moves g l =
    3 * (2 * effort (rank_in l.ranks.now) (specification_of l.spec.now).processes
    (hide l.gates.now.items (behaviour_of l.part.now))) + 1

abbrev pub decreases-enable_moves : goal.decreases-enable_moves
decreases-enable_moves g l =
    3 * (2 * effort (rank_in l.ranks.now) (specification_of l.spec.now).processes (behaviour_of l.left.now) + 2) + 1

abbrev pub decreases-disable_moves : goal.decreases-disable_moves
decreases-disable_moves g l =
    3 * (2 * effort (rank_in l.ranks.now) (specification_of l.spec.now).processes
    (disable (behaviour_of l.left.now) (behaviour_of l.right.now))) + 1

abbrev pub decreases-let_moves : goal.decreases-let_moves
decreases-let_moves g l =
    3 * (2 * effort (rank_in l.ranks.now) (specification_of l.spec.now).processes
    (let_be (map let_of l.bindings.now.items) (behaviour_of l.part.now))) + 1

abbrev pub decreases-value_moves : goal.decreases-value_moves
decreases-value_moves g l =
    3 * (2 * effort (rank_in l.ranks.now) (specification_of l.spec.now).processes
    (choose_value (variable_of l.variable.now) (behaviour_of l.part.now))) + 1

abbrev pub decreases-gate_moves : goal.decreases-gate_moves
decreases-gate_moves g l =
    3 * (2 * effort (rank_in l.ranks.now) (specification_of l.spec.now).processes
    (choose_gate l.gate l.gates.now.items (behaviour_of l.part.now))) + 1

abbrev pub decreases-call_moves : goal.decreases-call_moves
decreases-call_moves g l =
    3 * (2 * (suc (rank_in l.ranks.now l.process) * above_bodies (specification_of l.spec.now).processes)) + 1

abbrev pub decreases-par_moves : goal.decreases-par_moves
decreases-par_moves g l =
    3 * (2 * effort (rank_in l.ranks.now) (specification_of l.spec.now).processes (behaviour_of l.part.now) + 2) + 1

abbrev pub decreases-gather_choice : goal.decreases-gather_choice
decreases-gather_choice g l =
    3 * (2 * effort (rank_in l.ranks.now) (specification_of l.spec.now).processes
    (choice (behaviour_of l.left.now) (behaviour_of l.right.now)))

abbrev pub decreases-gather : goal.decreases-gather
decreases-gather g l =
    3 * (2 * effort (rank_in l.ranks.now) (specification_of l.spec.now).processes (behaviour_of l.behaviour.now) + 1) + 2
