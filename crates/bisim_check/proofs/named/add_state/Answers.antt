use Rattle.std.proofs.Common.{ap, sym, subst}
use Rattle.lotos_base.specs.Equation.{Data}
use Rattle.lotos_base.specs.Term.{Term}
use Rattle.behaviour_semantics.specs.Behaviour.{Behaviour}
use Rattle.behaviour_tree.specs.StateView.{state_of}
use Rattle.certificate_theory.specs.NamedStates.{NamesNoState, NamesState}
use Rattle.menu_builder.proofs.HandedOn.{held_before, holds_after}
use Rattle.bisim_check.specs.Faults.{TellsPairs}
use Rattle.bisim_check.specs.Surveys.{IsSideOf, IsStateIn, IsSurveyed, behaviours_in, side_over}
use Rattle.lotos_base.proofs.Options.{gave_up}
use Rattle.bisim_check.proofs.SurveyLemmas.{surveyed_more}
use Rattle.bisim_check.proofs.named.add_state.Goals as goal

pub survey-requires-clause-side : goal.survey-requires-clause-side
survey-requires-clause-side g c =
    holds_after (λ (d : Data) (k : Term → Term). IsSideOf d.signature c.args.side.now.spec.now) c.in_ok-state.ensures.same_known
    c.requires.side

pub survey-requires-clause-state : goal.survey-requires-clause-state
survey-requires-clause-state g c =
    holds_after (λ (d : Data) (k : Term → Term). IsStateIn d.signature c.args.side.now.spec.now c.in_ok-state.state)
    c.in_ok-state.ensures.same_known c.in_ok-state.ensures.state

pub returns-in_err-state-clause-added : goal.returns-in_err-state-clause-added
returns-in_err-state-clause-added g c =
    gave_up _ (TellsPairs (NamesNoState (side_over (g.D.Deciding.known_data c.args.data.now) (g.D.Deciding.canon c.args.data.now)
    c.args.side.now.spec.now) (behaviours_in c.args.states.now.items) c.args.from c.args.number c.args.line)) c.from_residual.result
    c.in_err-state.field-0.0 c.from_residual.ensures.1 c.in_err-state.ensures.named

pub returns-clause-added : goal.returns-clause-added
returns-clause-added g c = record {
  last = c.in_ok-surveyed.surveyed;
  named = subst (λ (b : Behaviour). NamesState (side_over (g.D.Deciding.known_data c.args.data.now)
      (g.D.Deciding.canon c.args.data.now) c.args.side.now.spec.now) (behaviours_in c.args.states.now.items) c.args.from c.args.number b)
      (sym (ap state_of c.in_ok-surveyed.ensures.same)) c.in_ok-state.ensures.named;
  added = c.in_ok-push_state.ensures;
}

pub returns-clause-surveyed_after : goal.returns-clause-surveyed_after
returns-clause-surveyed_after g c =
    surveyed_more (g.D.Deciding.known_data c.args.data.now) (g.D.Deciding.canon c.args.data.now) c.args.side.now.spec.now
    c.args.states.now.items c.push_state.new.states.items c.in_ok-surveyed.surveyed c.in_ok-push_state.ensures c.requires.surveyed
    (held_before (λ (d : Data) (k : Term → Term). IsSurveyed d k c.args.side.now.spec.now c.in_ok-surveyed.surveyed)
    c.in_ok-state.ensures.same_known c.in_ok-surveyed.ensures.surveyed)
