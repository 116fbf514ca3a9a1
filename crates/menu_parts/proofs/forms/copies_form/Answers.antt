use Rattle.std.proofs.Common.{◌∙◌, ap, sym, subst}
use Rattle.behaviour_semantics.specs.Rule.{copies}
use Rattle.behaviour_tree.specs.BehaviourView.{behaviour_of, meet_of}
use Rattle.behaviour_tree.specs.DefinitionView.{specification_of}
use Rattle.behaviour_tree.specs.Over.{AreTermsOf}
use Rattle.behaviour_tree.specs.StateView.{node_profiles, stands_for}
use Rattle.behaviour_tree.specs.declared.states.Node.{Node}
use Rattle.step_taker.proofs.SplitLemmas.{parts_as}
use Rattle.menu_parts.proofs.FormLemmas.{copies_closed, copies_made, passable_node}
use Rattle.menu_parts.proofs.forms.copies_form.Goals as goal

pub returns : goal.returns
returns c = λ basis base part.
    let g = c.args.formal in
    let gates = c.args.gates.now.items in
    let meet = meet_of c.args.meet.now in
    let b = behaviour_of c.args.part.now.value in
    let made = c.in_ok-inner.inner.value in
    let same = ap stands_for c.in_ok-inner.ensures ∙ c.in_ok-copies.ensures.same in (
      passable_node basis (copies g gates meet b) made same
          (subst (λ (node : Node). AreTermsOf basis.data_.signature (node_profiles node)) (sym c.in_ok-inner.ensures)
          (c.in_ok-copies.ensures.terms basis.data_.signature part.terms_of_signature))
          (parts_as made c.in_ok-copies.copies c.in_ok-inner.ensures (c.in_ok-copies.ensures.closed_parts basis.data_.signature
          (specification_of basis.spec) part.closed.4))
          (copies_closed basis base g gates meet b part.closed),
      copies_made basis base g gates meet b made same part.closed,
    )
