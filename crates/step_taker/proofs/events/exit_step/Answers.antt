use Rattle.std.proofs.Common.{◌+◌, ◌∙◌, ℕ, length, map, ap, sym, subst, Ok}
use Rattle.behaviour_semantics.specs.Behaviour.{exit_with}
use Rattle.behaviour_semantics.specs.Fault.{wrong_leaves}
use Rattle.behaviour_semantics.specs.Label.{exit_event}
use Rattle.behaviour_tree.specs.BehaviourView.{exit_value_of, terms_of}
use Rattle.behaviour_tree.specs.MoveView.{shape_of}
use Rattle.behaviour_tree.specs.Over.{AreTermsOf}
use Rattle.behaviour_tree.specs.StateView.{node_profiles, stands_for}
use Rattle.behaviour_tree.specs.declared.states.Node.{Node}
use Rattle.step_parts.proofs.CheckedLemmas.{told_more}
use Rattle.step_parts.proofs.HandedOn.{keeps_itself}
use Rattle.step_taker.specs.Taken.{ground_of, setting_on}
use Rattle.step_taker.proofs.ThereLemmas.{memory_walked, misfit_there, of_shape, refusal_walked, there_refused, there_walked}
use Rattle.step_taker.proofs.SplitLemmas.{parts_as}
use Rattle.step_taker.proofs.EventLemmas.{enough_of, exit_moved, exit_told}
use Rattle.step_taker.proofs.UnfitLemmas.{unfit_exit}
use Rattle.behaviour_semantics.specs.Shape.{quit}
use Rattle.step_taker.proofs.events.exit_step.Goals as goal

pub returns-in_default : goal.returns-in_default
returns-in_default g c =
    record {
      answer = λ place there. misfit_there (ground_of (g.D.Deciding.known_data c.args.data.now) (g.D.Deciding.canon c.args.data.now)
          c.args.walk.now.spec.now) (terms_of c.args.walk.now.leaves.now) place (exit_with (map exit_value_of c.args.values.now.items))
          (shape_of c.args.shape.now) c.args.at there c.misfit.result
          (unfit_exit (setting_on (ground_of (g.D.Deciding.known_data c.args.data.now) (g.D.Deciding.canon c.args.data.now)
          c.args.walk.now.spec.now)) (terms_of c.args.walk.now.leaves.now) c.args.at.leaf c.args.shape.now (map exit_value_of
          c.args.values.now.items) c.in_default.not-Quit) c.misfit.ensures;
      same_known = keeps_itself;
    }

pub returns-in_err-sorts-clause-answer : goal.returns-in_err-sorts-clause-answer
returns-in_err-sorts-clause-answer g c =
    λ place there. memory_walked (ground_of (g.D.Deciding.known_data c.args.data.now) (g.D.Deciding.canon c.args.data.now)
    c.args.walk.now.spec.now) (terms_of c.args.walk.now.leaves.now) place c.from_residual.result c.from_residual.ensures.1

pub returns-in_err-checked_leaves-clause-answer : goal.returns-in_err-checked_leaves-clause-answer
returns-in_err-checked_leaves-clause-answer g c =
    λ place there.
    refusal_walked (ground_of (g.D.Deciding.known_data c.args.data.now) (g.D.Deciding.canon c.args.data.now) c.args.walk.now.spec.now)
    (terms_of c.args.walk.now.leaves.now) place c.from_residual-in_err-checked_leaves.result c.in_err-checked_leaves.field-0.0
    c.from_residual-in_err-checked_leaves.ensures.1
    (there_refused (ground_of (g.D.Deciding.known_data c.args.data.now) (g.D.Deciding.canon c.args.data.now) c.args.walk.now.spec.now)
    (terms_of c.args.walk.now.leaves.now) place (exit_with (map exit_value_of c.args.values.now.items)) quit c.args.at (of_shape
    place (exit_with (map exit_value_of c.args.values.now.items)) _ quit c.args.at (sym (ap shape_of c.in-Quit.is)) there)
    c.in_err-checked_leaves.field-0.0
    (exit_told (ground_of (g.D.Deciding.known_data c.args.data.now) (g.D.Deciding.canon c.args.data.now) c.args.walk.now.spec.now)
    (terms_of c.args.walk.now.leaves.now) (map exit_value_of c.args.values.now.items) place.number c.args.at.leaf
    c.in_err-checked_leaves.field-0.0
    (told_more place.number _ _ (λ w is. ap (wrong_leaves (g.D.Deciding.known_data c.args.data.now).signature (terms_of
    c.args.walk.now.leaves.now) c.args.at.leaf) (sym (c.as_slice.ensures.value ∙ c.in_ok-sorts.ensures)) ∙ is)
    c.in_err-checked_leaves.field-0.0
    (c.in_err-checked_leaves.ensures.checked (g.D.Deciding.known_data c.args.data.now).signature place.number
    c.requires.walk.leaves_of_signature there.node))))

pub returns-in_err-target-clause-answer : goal.returns-in_err-target-clause-answer
returns-in_err-target-clause-answer g c =
    λ place there. memory_walked (ground_of (g.D.Deciding.known_data c.args.data.now) (g.D.Deciding.canon c.args.data.now)
    c.args.walk.now.spec.now) (terms_of c.args.walk.now.leaves.now) place c.from_residual-in_err-target.result
    c.from_residual-in_err-target.ensures.1

pub results-requires-clause-terms : goal.results-requires-clause-terms
results-requires-clause-terms g c =
    c.requires.part.terms_of_signature

pub results-requires-clause-leaves : goal.results-requires-clause-leaves
results-requires-clause-leaves g c =
    c.requires.walk.leaves_of_signature

pub results-requires-clause-enough : goal.results-requires-clause-enough
results-requires-clause-enough g c =
    enough_of c.args.at.leaf (length c.args.walk.now.leaves.now) _ _ (c.as_slice.ensures.value ∙ c.in_ok-sorts.ensures)
    c.in_ok-checked_leaves.ensures.enough

pub returns-in_err-made-clause-answer : goal.returns-in_err-made-clause-answer
returns-in_err-made-clause-answer g c =
    λ place there. memory_walked (ground_of (g.D.Deciding.known_data c.args.data.now) (g.D.Deciding.canon c.args.data.now)
    c.args.walk.now.spec.now) (terms_of c.args.walk.now.leaves.now) place c.from_residual-in_err-made.result
    c.from_residual-in_err-made.ensures.1

pub returns-clause-answer : goal.returns-clause-answer
returns-clause-answer g c =
    λ place there.
    there_walked (ground_of (g.D.Deciding.known_data c.args.data.now) (g.D.Deciding.canon c.args.data.now) c.args.walk.now.spec.now)
    (terms_of c.args.walk.now.leaves.now) place (exit_with (map exit_value_of c.args.values.now.items)) quit c.args.at (of_shape
    place (exit_with (map exit_value_of c.args.values.now.items)) _ quit c.args.at (sym (ap shape_of c.in-Quit.is)) there) (Ok _)
    (exit_moved (ground_of (g.D.Deciding.known_data c.args.data.now) (g.D.Deciding.canon c.args.data.now) c.args.walk.now.spec.now)
    (terms_of c.args.walk.now.leaves.now) (map exit_value_of c.args.values.now.items) place.number c.args.at.leaf _ (ap (wrong_leaves
    (g.D.Deciding.known_data c.args.data.now).signature (terms_of c.args.walk.now.leaves.now) c.args.at.leaf) (sym
    (c.as_slice.ensures.value ∙ c.in_ok-sorts.ensures)) ∙ c.in_ok-checked_leaves.ensures.checked (g.D.Deciding.known_data
    c.args.data.now).signature place.number c.requires.walk.leaves_of_signature there.node) (ap exit_event c.in_ok-made.ensures.same)
    (ap stands_for c.in_ok-target.ensures)
    (c.below.ensures.node place.number there.node)
    (ap (λ (k : ℕ). c.args.at.leaf + k) (c.len.ensures ∙ c.in_ok-sorts.sorts.ok.0 ∙ ap length c.in_ok-sorts.ensures)) (record {
      parts = parts_as _ _ c.in_ok-target.ensures tt;
      terms = subst (λ (node : Node). AreTermsOf (g.D.Deciding.known_data c.args.data.now).signature (node_profiles node)) (sym
          c.in_ok-target.ensures) tt;
      values = c.in_ok-made.ensures.over;
    }))
