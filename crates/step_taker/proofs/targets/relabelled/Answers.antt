use Rattle.std.proofs.Common.{◌∙◌, refl, ap, sym, subst}
use Rattle.behaviour_semantics.specs.Label.{label_under}
use Rattle.behaviour_tree.specs.MoveView.{label_of}
use Rattle.behaviour_tree.specs.Over.{AreTermsOf}
use Rattle.step_taker.proofs.MadeLemmas.{relabelling_made}
use Rattle.step_taker.proofs.ThereLemmas.{memory_walked}
use Rattle.behaviour_semantics.specs.Behaviour.{Relabelling}
use Rattle.step_taker.proofs.targets.relabelled.Goals as goal

pub target_under-requires : goal.target_under-requires
target_under-requires c =
    c.requires

pub returns-in_err-target : goal.returns-in_err-target
returns-in_err-target c =
    λ ground leaves whole part at has below given m. memory_walked ground leaves whole c.from_residual.result c.from_residual.ensures.1

pub returns : goal.returns
returns c =
    λ ground leaves whole part at has below given m.
    relabelling_made ground leaves whole part below c.args.moved m _ refl (record {
      parts = c.in_ok-target.ensures.closed_parts ground given;
      terms = c.in_ok-target.ensures.terms ground.data_.signature m.terms;
      values = subst (AreTermsOf ground.data_.signature) (sym c.relabel-label.ensures.profiles) m.values;
    }) c.args.pairs.items has (c.relabel-label.ensures.same ∙ ap (λ (pairs : Relabelling). label_under pairs (label_of
    c.args.moved.label)) c.as_slice.ensures.value) c.in_ok-target.ensures.same
