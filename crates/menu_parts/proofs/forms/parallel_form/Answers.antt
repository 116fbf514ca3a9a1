use Rattle.behaviour_tree.specs.BehaviourView.{meet_of}
use Rattle.step_taker.proofs.HandedOn.{first_terms, second_terms}
use Rattle.step_taker.specs.Sides.{side_of, side_profiles}
use Rattle.menu_parts.proofs.FormLemmas.{parallel_made, passable_side}
use Rattle.menu_parts.proofs.forms.parallel_form.Goals as goal

pub returns : goal.returns
returns c = λ basis base part state other.
    let left = c.args.left.now in
    let right = c.args.right.now in (
      passable_side basis left c.in_ok-first.first.value c.in_ok-first.ensures.same c.in_ok-first.ensures.terms
          c.in_ok-first.ensures.closed_parts state (first_terms basis.data_.signature (side_profiles left) (side_profiles right)
          part.terms_of_signature) part.closed.1,
      passable_side basis right c.in_ok-second.second.value c.in_ok-second.ensures.same c.in_ok-second.ensures.terms
          c.in_ok-second.ensures.closed_parts other (second_terms basis.data_.signature (side_profiles left) (side_profiles right)
          part.terms_of_signature) part.closed.2,
      parallel_made basis base (meet_of c.args.meet.now) (side_of left) (side_of right) c.in_ok-first.first.value
          c.in_ok-second.second.value c.in_ok-first.ensures.same c.in_ok-second.ensures.same part.closed,
    )
