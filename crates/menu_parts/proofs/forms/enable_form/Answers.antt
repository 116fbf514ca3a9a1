use Rattle.behaviour_tree.specs.BehaviourView.{variables_of}
use Rattle.step_taker.proofs.HandedOn.{first_terms}
use Rattle.step_taker.specs.Sides.{side_of, side_profiles}
use Rattle.menu_parts.proofs.FormLemmas.{enable_made, passable_side}
use Rattle.menu_parts.proofs.forms.enable_form.Goals as goal

pub returns : goal.returns
returns c = λ basis right terms base part state.
    let left = c.args.left.now in
    let inner = c.in_ok-inner.inner.value in (
      passable_side basis left inner c.in_ok-inner.ensures.same c.in_ok-inner.ensures.terms c.in_ok-inner.ensures.closed_parts state
          (first_terms basis.data_.signature (side_profiles left) terms part.terms_of_signature) part.closed.0,
      enable_made basis base (side_of left) (variables_of c.args.variables.now.items) right inner c.in_ok-inner.ensures.same part.closed,
    )
