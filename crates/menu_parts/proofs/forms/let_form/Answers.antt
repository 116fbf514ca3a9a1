use Rattle.std.proofs.Common.{◌∙◌, ap, sym, subst, map}
use Rattle.behaviour_semantics.specs.Behaviour.{Behaviour}
use Rattle.behaviour_tree.specs.BehaviourView.{behaviour_of, let_of}
use Rattle.behaviour_tree.specs.DefinitionView.{specification_of}
use Rattle.step_taker.specs.Taken.{ground_of}
use Rattle.step_taker.specs.Walked.{IsClosedOn}
use Rattle.step_taker.proofs.BodyLemmas.{let_closed}
use Rattle.menu_parts.proofs.FormLemmas.{let_made, passable_node}
use Rattle.menu_parts.proofs.forms.let_form.Goals as goal

pub returns-clause-form : goal.returns-clause-form
returns-clause-form g c =
    let basis = ground_of (g.D.Deciding.known_data c.args.decider.now) (g.D.Deciding.canon c.args.decider.now) c.args.walk.now.spec.now in
    let bindings = map let_of c.args.bindings.now.items in
    let b = behaviour_of c.args.part.now in
    let made = c.in_ok-inner.inner.value in
    let closed = subst (λ (x : Behaviour). IsClosedOn basis x) (sym c.in_ok-body.ensures.same)
    (let_closed basis c.requires.base.is_canon c.requires.base.over bindings b c.requires.part.closed) in (
      passable_node basis (behaviour_of c.in_ok-body.body) made c.in_ok-inner.ensures.same
          (c.in_ok-inner.ensures.terms basis.data_.signature c.in_ok-body.ensures.terms)
          (c.in_ok-inner.ensures.closed_parts basis.data_.signature (specification_of basis.spec) closed) closed,
      let_made basis c.requires.base bindings b made (c.in_ok-inner.ensures.same ∙ c.in_ok-body.ensures.same) c.requires.part.closed,
    )
