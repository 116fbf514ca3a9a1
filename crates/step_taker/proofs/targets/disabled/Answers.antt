use Rattle.std.proofs.Common.{refl}
use Rattle.step_taker.specs.Sides.{side_of}
use Rattle.step_taker.proofs.MadeLemmas.{disabling_made}
use Rattle.step_taker.proofs.ThereLemmas.{memory_walked}
use Rattle.step_taker.proofs.targets.disabled.Goals as goal

pub returns-in_err-target : goal.returns-in_err-target
returns-in_err-target c =
    λ ground leaves whole part at has below given m. memory_walked ground leaves whole c.from_residual.result c.from_residual.ensures.1

pub returns : goal.returns
returns c =
    λ ground leaves whole part at has below given m.
    disabling_made ground leaves whole part below c.args.moved m _ refl (record {
      parts = c.in_ok-target.ensures.closed_parts ground given m.parts;
      terms = c.in_ok-target.ensures.terms ground.data_.signature m.terms given.passable.terms_of_signature;
      values = m.values;
    }) (side_of c.args.right.now) has refl c.in_ok-target.ensures.same
