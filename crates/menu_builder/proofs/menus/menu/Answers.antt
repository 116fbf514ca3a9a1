use Rattle.std.proofs.Common.{sym, subst}
use Rattle.behaviour_semantics.specs.WellFormed.{Every}
use Rattle.draft_parts.specs.HandedOn.{IsEntryOver}
use Rattle.menu_builder.proofs.MenuLemmas.{known_node, menu_exact}
use Rattle.menu_builder.proofs.menus.menu.Goals as goal

pub node_entries-requires-clause-node : goal.node_entries-requires-clause-node
node_entries-requires-clause-node g c =
    known_node (g.D.Deciding.known_data c.args.decider.now) c.args.spec.now c.args.state.now c.node-node.result.now
    c.node-node.ensures c.requires.state c.requires.closed

pub returns-clause-exact : goal.returns-clause-exact
returns-clause-exact g c =
    menu_exact (g.D.Deciding.known_data c.args.decider.now) (g.D.Deciding.canon c.args.decider.now) c.args.spec.now c.args.state.now
    c.node-node.result.now c.in_ok-entries.entries.items c.of.result c.node-node.ensures c.in_ok-entries.ensures.exact
    c.of.ensures

pub returns-clause-over : goal.returns-clause-over
returns-clause-over g c =
    subst (Every (IsEntryOver (g.D.Deciding.known_data c.args.decider.now).signature)) (sym c.of.ensures)
    c.in_ok-entries.ensures.over
