use Rattle.std.proofs.Common.{◌∙◌, refl, ap, sym, subst, Bool, Some}
use Rattle.behaviour_semantics.specs.Fault.{first_unmet, not_fitting}
use Rattle.behaviour_semantics.specs.Rule.{label_values, pairwise}
use Rattle.behaviour_tree.specs.BehaviourView.{meet_of}
use Rattle.behaviour_tree.specs.MoveView.{label_of}
use Rattle.behaviour_tree.specs.Over.{AreTermsOf}
use Rattle.step_parts.proofs.CheckedLemmas.{told_more, tells}
use Rattle.step_taker.specs.Taken.{ground_of}
use Rattle.step_taker.proofs.TogetherLemmas.{both_made, match_told}
use Rattle.step_taker.proofs.ThereLemmas.{memory_walked, refusal_walked}
use Rattle.step_taker.proofs.SplitLemmas.{together_wrong, values_wrong}
use Rattle.std.specs.Prelude.{if◌then◌else◌}
use Rattle.step_taker.proofs.parallels.together.Goals as goal

pub returns-then-not-may_move_together-clause-answer : goal.returns-then-not-may_move_together-clause-answer
returns-then-not-may_move_together-clause-answer g c =
    λ leaves b d s t n k at l r.
    match_told (ground_of (g.D.Deciding.known_data c.args.data.now) (g.D.Deciding.canon c.args.data.now) c.args.walk.now.spec.now) leaves
    (meet_of c.args.meet.now) b d s t n k c.args.first l c.args.second r c.misfit.result
    (tells n _ not_fitting c.misfit.result
    (ap (λ (holds : Bool). if holds then first_unmet (g.D.Deciding.canon c.args.data.now) (pairwise (label_values (label_of
    c.args.first.label)) (label_values (label_of c.args.second.label))) else Some not_fitting)
    (sym (c.may_move_together.ensures (g.D.Deciding.known_data c.args.data.now).signature c.requires.left c.requires.right) ∙
    c.if-not-may_move_together.true)) (c.misfit.ensures n at))

pub checked_pairs-requires-clause-left : goal.checked_pairs-requires-clause-left
checked_pairs-requires-clause-left g c =
    subst (AreTermsOf (g.D.Deciding.known_data c.args.data.now).signature) (sym c.values.ensures.profiles) c.requires.left

pub checked_pairs-requires-clause-right : goal.checked_pairs-requires-clause-right
checked_pairs-requires-clause-right g c =
    subst (AreTermsOf (g.D.Deciding.known_data c.args.data.now).signature) (sym c.values-2.ensures.profiles) c.requires.right

pub returns-in_err-checked_pairs-clause-answer : goal.returns-in_err-checked_pairs-clause-answer
returns-in_err-checked_pairs-clause-answer g c =
    λ leaves b d s t n k at l r.
    refusal_walked (ground_of (g.D.Deciding.known_data c.args.data.now) (g.D.Deciding.canon c.args.data.now) c.args.walk.now.spec.now)
    leaves _ c.from_residual.result c.in_err-checked_pairs.field-0.0 c.from_residual.ensures.1
    (match_told (ground_of (g.D.Deciding.known_data c.args.data.now) (g.D.Deciding.canon c.args.data.now) c.args.walk.now.spec.now)
    leaves (meet_of c.args.meet.now) b d s t n k c.args.first l c.args.second r c.in_err-checked_pairs.field-0.0
    (told_more n _ _ (λ w is. together_wrong (ground_of (g.D.Deciding.known_data c.args.data.now) (g.D.Deciding.canon c.args.data.now)
    c.args.walk.now.spec.now) (meet_of c.args.meet.now) (label_of c.args.first.label) (label_of c.args.second.label)
    (sym (c.may_move_together.ensures (g.D.Deciding.known_data c.args.data.now).signature c.requires.left c.requires.right) ∙
    c.if-not-may_move_together.false)
    ∙ values_wrong (g.D.Deciding.canon c.args.data.now) _ _ _ _ (sym c.values.ensures.same) (sym c.values-2.ensures.same) ∙ is)
    c.in_err-checked_pairs.field-0.0 (c.in_err-checked_pairs.ensures.checked n at)))

pub returns-in_err-target-clause-answer : goal.returns-in_err-target-clause-answer
returns-in_err-target-clause-answer g c =
    λ leaves b d s t n k at l r. memory_walked (ground_of (g.D.Deciding.known_data c.args.data.now) (g.D.Deciding.canon c.args.data.now)
    c.args.walk.now.spec.now) leaves _ c.from_residual-in_err-target.result c.from_residual-in_err-target.ensures.1

pub returns-clause-answer : goal.returns-clause-answer
returns-clause-answer g c =
    λ leaves b d s t n k at l r.
    both_made (ground_of (g.D.Deciding.known_data c.args.data.now) (g.D.Deciding.canon c.args.data.now) c.args.walk.now.spec.now) leaves
    (meet_of c.args.meet.now) b d s t n k c.args.first l c.args.second r _
    (together_wrong (ground_of (g.D.Deciding.known_data c.args.data.now) (g.D.Deciding.canon c.args.data.now) c.args.walk.now.spec.now)
    (meet_of c.args.meet.now) (label_of c.args.first.label) (label_of c.args.second.label)
    (sym (c.may_move_together.ensures (g.D.Deciding.known_data c.args.data.now).signature c.requires.left c.requires.right) ∙
    c.if-not-may_move_together.false)
    ∙ values_wrong (g.D.Deciding.canon c.args.data.now) _ _ _ _ (sym c.values.ensures.same) (sym c.values-2.ensures.same) ∙
    c.in_ok-checked_pairs.ensures.checked n at)
    refl c.in_ok-target.ensures.same refl (record {
      parts = c.in_ok-target.ensures.closed_parts l.parts r.parts;
      terms = c.in_ok-target.ensures.terms (g.D.Deciding.known_data c.args.data.now).signature l.terms r.terms;
      values = l.values;
    })
