use Rattle.std.proofs.Common.{◌≡◌, ap, sym, subst}
use Rattle.behaviour_semantics.specs.Behaviour.{SynchronisationSet, no_gates, parallel}
use Rattle.behaviour_tree.specs.BehaviourView.{meet_of}
use Rattle.behaviour_tree.specs.StateView.{stands_for}
use Rattle.step_taker.proofs.HandedOn.{first_terms, second_terms}
use Rattle.step_taker.specs.Sides.{side_of, side_profiles}
use Rattle.step_taker.specs.Walked.{IsClosedOn}
use Rattle.menu_parts.specs.Forms.{IsMadeBeside}
use Rattle.menu_parts.proofs.FormLemmas.{parallel_made, passable_side}
use Rattle.menu_parts.proofs.opening.open_parallel.Goals as goal

pub returns-in_ok-second-in-Nothing : goal.returns-in_ok-second-in-Nothing
returns-in_ok-second-in-Nothing c = λ basis base part state other.
    let left = c.args.left.now in
    let right = c.args.right.now in
    let first = c.in_ok-first-in-Nothing.first.value in
    let second = c.in_ok-second-in-Nothing.second.value in
    let meet : meet_of c.args.meet.now ≡ no_gates = ap meet_of c.in-Nothing.is in (
      passable_side basis left first c.in_ok-first-in-Nothing.ensures.same c.in_ok-first-in-Nothing.ensures.terms
          c.in_ok-first-in-Nothing.ensures.closed_parts state (first_terms basis.data_.signature (side_profiles left) (side_profiles right)
          part.terms_of_signature) part.closed.1,
      passable_side basis right second c.in_ok-second-in-Nothing.ensures.same c.in_ok-second-in-Nothing.ensures.terms
          c.in_ok-second-in-Nothing.ensures.closed_parts other (second_terms basis.data_.signature (side_profiles left)
          (side_profiles right) part.terms_of_signature) part.closed.2,
      subst (λ (m : SynchronisationSet). IsMadeBeside basis no_gates (stands_for first) (stands_for second)
          (parallel m (side_of left) (side_of right))) (sym meet)
          (parallel_made basis base no_gates (side_of left) (side_of right) first second c.in_ok-first-in-Nothing.ensures.same
          c.in_ok-second-in-Nothing.ensures.same
          (subst (λ (m : SynchronisationSet). IsClosedOn basis (parallel m (side_of left) (side_of right))) meet part.closed)),
    )
