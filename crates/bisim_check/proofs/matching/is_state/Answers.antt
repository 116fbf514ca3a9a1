use Rattle.std.proofs.Common.{◌≡◌, sym, ◌∙◌, ap}
use Rattle.behaviour_tree.specs.StateView.{stands_for, state_of}
use Rattle.bisim_check.specs.Readings.{behaviour_at}
use Rattle.bisim_check.specs.Surveys.{behaviour_in}
use Rattle.bisim_check.proofs.ReadingLemmas.{at_state}
use Rattle.bisim_check.proofs.matching.is_state.Goals as goal

pub returns : goal.returns
returns c =
    let states = c.args.states.now.items in
    let found = c.state_at.result.now in
    let here : behaviour_at states c.args.number ≡ behaviour_in found =
    at_state states c.args.number found c.state_at.ensures in
    let one : stands_for c.node.result.now ≡ behaviour_in found = ap stands_for c.node.ensures in
    let other : stands_for c.node-2.result.now ≡ state_of c.args.state.now = ap stands_for c.node-2.ensures in (
      (λ h. here ∙ (sym one ∙ (c.same.ensures.0 h ∙ other))),
      (λ e. c.same.ensures.1 (one ∙ (sym here ∙ (e ∙ sym other)))),
    )
