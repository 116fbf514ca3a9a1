use Rattle.std.proofs.Common.{◌∙◌, List, refl, ap, sym, subst}
use Rattle.lotos_base.specs.Term.{Term}
use Rattle.behaviour_semantics.specs.Behaviour.{sorts_of}
use Rattle.behaviour_semantics.specs.Fault.{unless}
use Rattle.behaviour_semantics.specs.Replacement.{with_values, binding_of}
use Rattle.behaviour_semantics.specs.Rule.{have_sorts, label_values}
use Rattle.behaviour_tree.specs.BehaviourView.{variables_of}
use Rattle.behaviour_tree.specs.DefinitionView.{specification_of}
use Rattle.behaviour_tree.specs.MoveView.{label_of}
use Rattle.behaviour_tree.specs.Over.{AreTermsOf}
use Rattle.step_parts.proofs.AcceptLemmas.{sorted_values}
use Rattle.step_taker.specs.Rows.{enabling_row}
use Rattle.step_taker.specs.Sides.{followed}
use Rattle.step_taker.proofs.WalkLemmas.{walked_misfit}
use Rattle.step_taker.proofs.MadeLemmas.{enabling_made}
use Rattle.step_taker.proofs.ThereLemmas.{memory_walked}
use Rattle.behaviour_semantics.specs.Rule.{AreValues}
use Rattle.step_taker.proofs.EndLemmas.{closed_values, ends_as, ends_with_values, never_ends}
use Rattle.step_taker.proofs.enablings.enabled.Goals as goal

pub returns-then-not-ends : goal.returns-then-not-ends
returns-then-not-ends c =
    λ ground leaves whole part at has below given m.
    walked_misfit ground leaves whole part (enabling_row ground.data_.signature (variables_of c.args.side.now.variables.now.items)
    (followed c.args.side.now)) has refl c.args.moved m c.misfit.result
    (ap unless (never_ends ground.data_.signature (sorts_of (variables_of c.args.side.now.variables.now.items)) (label_of
    c.args.moved.label) (sym c.ends.ensures ∙ c.if-not-ends.true))) (c.misfit.ensures whole.number at)

pub returns-then-not-have_sorts : goal.returns-then-not-have_sorts
returns-then-not-have_sorts c =
    λ ground leaves whole part at has below given m.
    walked_misfit ground leaves whole part (enabling_row ground.data_.signature (variables_of c.args.side.now.variables.now.items)
    (followed c.args.side.now)) has refl c.args.moved m c.misfit-then-not-have_sorts.result
    (ap unless (ends_as ground.data_.signature (sorts_of (variables_of c.args.side.now.variables.now.items)) (label_of
    c.args.moved.label) (sym c.ends.ensures ∙ c.if-not-ends.false)
    ∙ (ap (λ (ts : List Term). have_sorts ground.data_.signature ts (sorts_of (variables_of c.args.side.now.variables.now.items))) (sym
    c.own_values-made.ensures.same) ∙ sym (c.have_sorts.ensures ground.data_.signature (subst (AreTermsOf ground.data_.signature)
    (sym c.own_values-made.ensures.profiles) m.values)) ∙ c.if-not-have_sorts.true))) (c.misfit-then-not-have_sorts.ensures
    whole.number at)

pub begun-requires : goal.begun-requires
begun-requires c =
    c.requires

pub returns-in_err-target : goal.returns-in_err-target
returns-in_err-target c =
    λ ground leaves whole part at has below given m. memory_walked ground leaves whole c.from_residual.result c.from_residual.ensures.1

pub returns : goal.returns
returns c =
    λ ground leaves whole part at has below given m.
    let sorted = (ap (λ (ts : List Term). have_sorts ground.data_.signature ts (sorts_of (variables_of
    c.args.side.now.variables.now.items))) (sym c.own_values-made.ensures.same) ∙ sym (c.have_sorts.ensures ground.data_.signature
    (subst (AreTermsOf ground.data_.signature) (sym c.own_values-made.ensures.profiles) m.values)) ∙ c.if-not-have_sorts.false) in
    enabling_made ground leaves whole part below c.args.moved m _ refl (record {
      parts = c.in_ok-target.ensures.closed_parts ground.data_.signature (specification_of ground.spec) (record {
        closed = given.0.states;
        distinct = given.0.binders.0;
        well_formed = given.0.closed;
        fitting = subst (AreValues ground.data_.signature (sorts_of (variables_of c.args.side.now.variables.now.items))) (sym
            c.own_values-made.ensures.same)
            (sorted_values ground.data_.signature (label_values (label_of c.args.moved.label)) (variables_of
            c.args.side.now.variables.now.items)
            (closed_values ground.data_.signature (specification_of ground.spec) (label_of c.args.moved.label) given.1) sorted);
        terms = subst (AreTermsOf ground.data_.signature) (sym c.own_values-made.ensures.profiles) m.values;
      });
      terms = c.in_ok-target.ensures.terms ground.data_.signature given.0.terms_of_signature (subst (AreTermsOf ground.data_.signature)
          (sym c.own_values-made.ensures.profiles) m.values);
      values = tt;
    }) (variables_of c.args.side.now.variables.now.items) (followed c.args.side.now) (label_values (label_of c.args.moved.label)) has
    (ends_with_values (label_of c.args.moved.label) (sym c.ends.ensures ∙ c.if-not-ends.false)) sorted refl
    (c.in_ok-target.ensures.same ∙ ap (λ (ts : List Term). with_values (binding_of (variables_of c.args.side.now.variables.now.items) ts)
    (followed c.args.side.now)) c.own_values-made.ensures.same)
