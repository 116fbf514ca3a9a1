use Rattle.std.proofs.Common.{◌∙◌, refl, ap, sym}
use Rattle.behaviour_semantics.specs.Behaviour.{parallel}
use Rattle.behaviour_semantics.specs.Fault.{unless}
use Rattle.behaviour_tree.specs.BehaviourView.{meet_of}
use Rattle.step_taker.specs.Rows.{alone_row}
use Rattle.step_taker.specs.Sides.{side_of}
use Rattle.step_taker.proofs.WalkLemmas.{walked_misfit}
use Rattle.step_taker.proofs.MadeLemmas.{alone_made}
use Rattle.step_taker.proofs.ThereLemmas.{memory_walked}
use Rattle.step_taker.proofs.parallels.right_alone.Goals as goal

pub returns-then-not-may_move_alone : goal.returns-then-not-may_move_alone
returns-then-not-may_move_alone c =
    λ ground leaves whole part at has below given m.
    walked_misfit ground leaves whole part (alone_row (meet_of c.args.meet.now) (parallel (meet_of c.args.meet.now) (side_of
    c.args.left.now))) has refl c.args.moved m c.misfit.result
    (ap unless (sym c.may_move_alone.ensures ∙ c.if-not-may_move_alone.true)) (c.misfit.ensures whole.number at)

pub returns-in_err-target : goal.returns-in_err-target
returns-in_err-target c =
    λ ground leaves whole part at has below given m. memory_walked ground leaves whole c.from_residual.result c.from_residual.ensures.1

pub returns : goal.returns
returns c =
    λ ground leaves whole part at has below given m.
    alone_made ground leaves whole part below c.args.moved m _ refl (record {
      parts = c.in_ok-target.ensures.closed_parts ground given m.parts;
      terms = c.in_ok-target.ensures.terms ground.data_.signature given.passable.terms_of_signature m.terms;
      values = m.values;
    }) (meet_of c.args.meet.now) (parallel (meet_of c.args.meet.now) (side_of c.args.left.now)) has (sym c.may_move_alone.ensures ∙
    c.if-not-may_move_alone.false) refl c.in_ok-target.ensures.same
