use Rattle.std.proofs.Common.{List, map, sym, subst}
use Rattle.std.proofs.lemmas.Result.{IfOk-weaker}
use Rattle.behaviour_semantics.specs.Solving as solving
use Rattle.behaviour_tree.specs.StateView.{stands_for}
use Rattle.behaviour_tree.specs.declared.states.Node.{Node}
use Rattle.shared_entries.specs.HandedOn.{plain_entry, IsKnownNode}
use Rattle.step_taker.specs.Taken.{ground_of}
use Rattle.menu_parts.specs.Forms.{IsExactOn}
use Rattle.menu_parts.proofs.KeptLemmas.{taken_terms, whole_kept}
use Rattle.menu_parts.proofs.components.whole.Goals as goal

pub node_entries-requires-clause-signature : goal.node_entries-requires-clause-signature
node_entries-requires-clause-signature g c = c.requires.base.base.signature

pub node_entries-requires-clause-over : goal.node_entries-requires-clause-over
node_entries-requires-clause-over g c = c.requires.base.base.over

pub node_entries-requires-clause-ranks : goal.node_entries-requires-clause-ranks
node_entries-requires-clause-ranks g c = c.requires.base.ranks

pub node_entries-requires-clause-node : goal.node_entries-requires-clause-node
node_entries-requires-clause-node g c =
    subst (λ (n : Node). IsKnownNode (g.D.Deciding.known_data c.args.decider.now).signature c.args.making.now.spec.now n)
    (sym c.deref.ensures) (record {
      closed = c.requires.node.passable.closed;
      terms = c.requires.node.passable.terms_of_signature;
      given = c.requires.node.states;
    })

pub node_entries-requires-clause-least : goal.node_entries-requires-clause-least
node_entries-requires-clause-least g c = c.requires.base.least

pub returns-clause-kept : goal.returns-clause-kept
returns-clause-kept g c =
    let basis = ground_of (g.D.Deciding.known_data c.args.decider.now) (g.D.Deciding.canon c.args.decider.now) c.args.making.now.spec.now in
    let exact = subst (λ (n : Node). IsExactOn basis (stands_for n) (map plain_entry c.in_ok-entries.entries.items)) c.deref.ensures
    c.in_ok-entries.ensures.exact in
    IfOk-weaker c.shared.result _ _ (λ made e.
    whole_kept basis c.args.node.now.value _ c.in_ok-node.ensures
    (subst (λ (entries : List solving.Entry). IsExactOn basis (stands_for c.args.node.now.value) entries) (sym c.in_ok-items.ensures.same)
    exact)
    (taken_terms basis.data_.signature c.in_ok-entries.entries.items c.in_ok-items.items.items c.in_ok-items.ensures.terms
    c.in_ok-entries.ensures.over)
    made.value e) c.shared.ensures
