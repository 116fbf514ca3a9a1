use Rattle.std.proofs.Common.{◌∙◌, refl, ap, sym, subst, Bool, not}
use Rattle.behaviour_semantics.specs.Fault.{unless}
use Rattle.behaviour_tree.specs.BehaviourView.{variables_of}
use Rattle.behaviour_tree.specs.Over.{AreTermsOf}
use Rattle.behaviour_tree.proofs.ClosedLemmas.{terms_both}
use Rattle.step_taker.specs.Rows.{passing_row}
use Rattle.step_taker.specs.Sides.{followed}
use Rattle.step_taker.proofs.WalkLemmas.{walked_misfit}
use Rattle.step_taker.proofs.MadeLemmas.{passing_made}
use Rattle.step_taker.proofs.ThereLemmas.{memory_walked}
use Rattle.step_taker.proofs.enablings.passed.Goals as goal

pub returns-then-ends : goal.returns-then-ends
returns-then-ends c =
    λ ground leaves whole part at has below given m.
    walked_misfit ground leaves whole part (passing_row (variables_of c.args.side.now.variables.now.items) (followed c.args.side.now))
    has refl c.args.moved m c.misfit.result
    (ap (λ (b : Bool). unless (not b)) (sym c.ends.ensures ∙ c.if-ends.true)) (c.misfit.ensures whole.number at)

pub returns-in_err-target : goal.returns-in_err-target
returns-in_err-target c =
    λ ground leaves whole part at has below given m. memory_walked ground leaves whole c.from_residual.result c.from_residual.ensures.1

pub returns : goal.returns
returns c =
    λ ground leaves whole part at has below given m.
    passing_made ground leaves whole part below c.args.moved m _ refl (record {
      parts = c.in_ok-target.ensures.closed_parts given.states m.parts;
      terms = subst (AreTermsOf ground.data_.signature) (sym c.in_ok-target.ensures.terms) (terms_both ground.data_.signature _ _ m.terms
          given.terms_of_signature);
      values = m.values;
    }) (variables_of c.args.side.now.variables.now.items) (followed c.args.side.now) has (sym c.ends.ensures ∙ c.if-ends.false) refl
    c.in_ok-target.ensures.same
