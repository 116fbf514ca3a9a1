use Rattle.std.proofs.Common.{[], refl}
use Rattle.behaviour_semantics.specs.Behaviour.{stop}
use Rattle.behaviour_semantics.specs.Label.{inner_event, gate_event}
use Rattle.behaviour_semantics.specs.Shape.{act, inner_step, let_bound}
use Rattle.behaviour_semantics.specs.Run.{at_start, one_move}
use Rattle.worked_cases.specs.BehaviourSamples.{one, gate_a, gate_b, event}
use Rattle.worked_cases.specs.ValueCases.{sum, giving_value}
use Rattle.worked_cases.specs.ComparisonCases.{two_events, giving_after_an_inner_event}
use Rattle.worked_cases.proofs.ShownMenus.{steps, kept_steps}
use Rattle.worked_cases.proofs.comparison_cases.runs_go_on.Goals as goal

pub returns : goal.returns
returns c = record {
  two_moves = one_move (steps [] two_events act [] (gate_event gate_a []) (event gate_b stop) [] [] refl refl refl)
      (one_move (steps [] (event gate_b stop) act [] (gate_event gate_b []) stop [] [] refl refl refl) at_start);
  kept = one_move (kept_steps [] giving_after_an_inner_event (let_bound inner_step) [] inner_event (giving_value one) [] [] refl refl refl)
      at_start;
  given = one_move (steps [] giving_after_an_inner_event (let_bound inner_step) [] inner_event (giving_value sum) [] [] refl refl refl)
      at_start;
  not_elsewhere = λ h. elim h [ ];
}
