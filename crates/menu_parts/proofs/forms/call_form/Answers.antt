use Rattle.std.proofs.Common.{◌∙◌, ap, sym, subst, List, zip}
use Rattle.std.specs.Prelude.{option_map}
use Rattle.lotos_base.proofs.Members.{at_map}
use Rattle.behaviour_semantics.specs.Behaviour.{Behaviour, Relabelling, call}
use Rattle.behaviour_semantics.specs.Solving.{Entry}
use Rattle.behaviour_tree.specs.BehaviourView.{behaviour_of, terms_of}
use Rattle.behaviour_tree.specs.DefinitionView.{process_of, specification_of}
use Rattle.behaviour_tree.specs.StateView.{stands_for}
use Rattle.shared_entries.specs.PartMenus.{call_menu}
use Rattle.step_taker.specs.Taken.{ground_of}
use Rattle.step_taker.specs.Walked.{IsClosedOn}
use Rattle.step_taker.proofs.BodyLemmas.{call_closed, is_called}
use Rattle.menu_parts.specs.Forms.{IsExactOn}
use Rattle.menu_parts.proofs.FormLemmas.{call_made, passable_node}
use Rattle.menu_parts.proofs.forms.call_form.Goals as goal

pub call_body-requires-clause-part : goal.call_body-requires-clause-part
call_body-requires-clause-part g c =
    is_called (ground_of (g.D.Deciding.known_data c.args.decider.now) (g.D.Deciding.canon c.args.decider.now) c.args.walk.now.spec.now)
    c.requires.base.is_canon c.requires.base.over c.args.process c.args.gates.now.items c.in-Some.called.now c.args.values.now.items
    (sym c.called_at.ensures ∙ ap (option_map (λ p. p.now)) c.in-Some.is) c.requires.part.closed c.requires.part.terms_of_signature

pub returns-clause-form : goal.returns-clause-form
returns-clause-form g c =
    let basis = ground_of (g.D.Deciding.known_data c.args.decider.now) (g.D.Deciding.canon c.args.decider.now) c.args.walk.now.spec.now in
    let process = process_of c.in-Some.called.now in
    let gates = c.args.gates.now.items in
    let values = c.args.values.now.items in
    let made = c.in_ok-inner.inner.value in
    let whole = call c.args.process gates (terms_of values) in
    let at = sym c.called_at.ensures ∙ ap (option_map (λ p. p.now)) c.in-Some.is in
    let closed = subst (λ (x : Behaviour). IsClosedOn basis x) (sym c.in_ok-body.ensures.same)
    (call_closed basis c.requires.base.is_canon c.requires.base.over c.in-Some.called.now values
    (is_called basis c.requires.base.is_canon c.requires.base.over c.args.process gates c.in-Some.called.now values at
    c.requires.part.closed c.requires.part.terms_of_signature)) in (
      passable_node basis (behaviour_of c.in_ok-body.body) made c.in_ok-inner.ensures.same
          (c.in_ok-inner.ensures.terms basis.data_.signature c.in_ok-body.ensures.terms)
          (c.in_ok-inner.ensures.closed_parts basis.data_.signature (specification_of basis.spec) closed) closed,
      subst (λ (pairs : Relabelling). (entries : List Entry) → IsExactOn basis (stands_for made) entries
          → IsExactOn basis whole (call_menu pairs entries)) (sym c.in_ok-pairs.ensures)
          (call_made basis c.requires.base c.args.process gates (terms_of values) process made
          (c.in_ok-inner.ensures.same ∙ c.in_ok-body.ensures.same)
          (at_map process_of basis.spec.processes.items c.args.process c.in-Some.called.now at) c.requires.part.closed),
    )
