use Rattle.std.proofs.Common.{◌∙◌, ℕ, List, refl, ap, sym, subst}
use Rattle.behaviour_tree.specs.MoveView.{label_of}
use Rattle.behaviour_tree.specs.Over.{AreTermsOf}
use Rattle.step_taker.proofs.MadeLemmas.{hiding_made}
use Rattle.step_taker.proofs.ThereLemmas.{memory_walked}
use Rattle.behaviour_semantics.specs.Rule.{hidden_label}
use Rattle.step_taker.proofs.targets.hidden.Goals as goal

pub returns-in_err-target : goal.returns-in_err-target
returns-in_err-target c =
    λ ground leaves whole part at has below given m. memory_walked ground leaves whole c.from_residual.result c.from_residual.ensures.1

pub returns : goal.returns
returns c =
    λ ground leaves whole part at has below given m.
    hiding_made ground leaves whole part below c.args.moved m _ refl (record {
      parts = c.in_ok-target.ensures.closed_parts m.parts;
      terms = subst (AreTermsOf ground.data_.signature) (sym c.in_ok-target.ensures.terms) m.terms;
      values = c.hide_label-label.ensures.over ground.data_.signature m.values;
    }) c.args.gates.now.items has (c.hide_label-label.ensures.same ∙ ap (λ (gates : List ℕ). hidden_label gates (label_of
    c.args.moved.label)) c.as_slice.ensures.value) c.in_ok-target.ensures.same
