use Rattle.std.proofs.Common.{refl, ap, sym, Ok}
use Rattle.behaviour_tree.specs.BehaviourView.{behaviour_of}
use Rattle.behaviour_tree.specs.DefinitionView.{specification_of}
use Rattle.behaviour_tree.specs.MoveView.{shape_of}
use Rattle.step_taker.specs.Taken.{setting_on}
use Rattle.step_taker.proofs.ThereLemmas.{memory_walked, misfit_there, of_shape, there_walked}
use Rattle.step_taker.proofs.EventLemmas.{inner_moved}
use Rattle.step_taker.proofs.UnfitLemmas.{unfit_inner}
use Rattle.behaviour_semantics.specs.Behaviour.{inner_action}
use Rattle.behaviour_semantics.specs.Shape.{inner_step}
use Rattle.step_taker.proofs.events.inner_step.Goals as goal

pub returns-in_default : goal.returns-in_default
returns-in_default c =
    λ ground leaves place passable there. misfit_there ground leaves place (inner_action (behaviour_of c.args.next.now.value)) (shape_of
    c.args.shape.now) c.args.at there c.misfit.result
    (unfit_inner (setting_on ground) leaves c.args.at.leaf c.args.shape.now (behaviour_of c.args.next.now.value) c.in_default.not-Inner)
    c.misfit.ensures

pub returns-in_err-target : goal.returns-in_err-target
returns-in_err-target c =
    λ ground leaves place passable there. memory_walked ground leaves place c.from_residual.result c.from_residual.ensures.1

pub returns : goal.returns
returns c =
    λ ground leaves place passable there.
    there_walked ground leaves place (inner_action (behaviour_of c.args.next.now.value)) inner_step c.args.at (of_shape place (inner_action
    (behaviour_of c.args.next.now.value)) _ inner_step c.args.at (sym (ap shape_of c.in-Inner.is)) there) (Ok _)
    (inner_moved ground leaves (behaviour_of c.args.next.now.value) place.number c.args.at.leaf _ refl c.in_ok-target.ensures.same
    (c.below.ensures.node place.number there.node) c.below.ensures.leaf (record {
      parts = c.in_ok-target.ensures.closed_parts ground.data_.signature (specification_of ground.spec) passable.closed tt;
      terms = c.in_ok-target.ensures.terms ground.data_.signature passable.terms_of_signature;
      values = tt;
    }))
