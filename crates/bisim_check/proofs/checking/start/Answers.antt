use Rattle.std.proofs.Common.{List, [], ◌∷◌, ◌++◌, ap, sym, ◌∙◌, subst}
use Rattle.behaviour_semantics.specs.Behaviour.{Behaviour}
use Rattle.behaviour_tree.specs.StateView.{state_of}
use Rattle.bisim_check.specs.Surveys.{AreSurveyed, behaviours_in}
use Rattle.bisim_check.specs.declared.surveys.Surveyed.{Surveyed}
use Rattle.bisim_check.proofs.StartLemmas.{copied_state}
use Rattle.bisim_check.proofs.checking.start.Goals as goal

pub survey-requires-clause-state : goal.survey-requires-clause-state
survey-requires-clause-state g c =
    copied_state (g.D.Deciding.known_data c.args.data.now).signature c.args.side.now.spec.now c.args.start.now c.in_ok-state.state
    c.in_ok-state.ensures.same c.in_ok-state.ensures.terms c.in_ok-state.ensures.closed c.requires.start

pub returns-clause-one : goal.returns-clause-one
returns-clause-one g c =
    let surveyed = c.in_ok-surveyed.surveyed in
    ap behaviours_in (c.in_ok-push_state.ensures ∙ ap (λ (it : List Surveyed). it ++ (surveyed ∷ [])) c.new-states.ensures.items)
    ∙ ap (λ (b : Behaviour). b ∷ []) (ap state_of c.in_ok-surveyed.ensures.same ∙ c.in_ok-state.ensures.same)

pub returns-clause-surveyed : goal.returns-clause-surveyed
returns-clause-surveyed g c =
    let surveyed = c.in_ok-surveyed.surveyed in
    subst (AreSurveyed (g.D.Deciding.known_data c.args.data.now) (g.D.Deciding.canon c.args.data.now) c.args.side.now.spec.now)
    (sym (c.in_ok-push_state.ensures ∙ ap (λ (it : List Surveyed). it ++ (surveyed ∷ [])) c.new-states.ensures.items))
    (c.in_ok-surveyed.ensures.surveyed, tt)
