use Rattle.std.proofs.Common.{◌∙◌, ap}
use Rattle.behaviour_tree.specs.StateView.{stands_for, state_of}
use Rattle.step_taker.specs.Taken.{ground_of}
use Rattle.menu_parts.proofs.MakerLemmas.{copied_node, entries_kept, kept_borrowed, menu_exact, menu_over}
use Rattle.menu_parts.proofs.makers.PartMenusMenuMaker.make.Goals as goal

pub brought-requires-clause-base : goal.brought-requires-clause-base
brought-requires-clause-base g c = record {
  base = record { signature = c.requires.signature; is_canon = g.met.D.Deciding.is_canon c.args.decider.now; over = c.requires.over };
  ranks = c.requires.ranks;
  least = c.requires.suited.least;
}

pub brought-requires-clause-node : goal.brought-requires-clause-node
brought-requires-clause-node g c =
    copied_node (g.D.Deciding.known_data c.args.decider.now) (g.D.Deciding.canon c.args.decider.now) c.args.spec.now c.args.state.now
    c.node.result.now c.in_ok-copy.copy c.in_ok-node.node.value c.node.ensures c.in_ok-copy.ensures.same c.in_ok-copy.ensures.terms
    c.in_ok-copy.ensures.closed c.in_ok-node.ensures c.requires.state c.requires.closed

pub brought-requires-clause-kept : goal.brought-requires-clause-kept
brought-requires-clause-kept g c =
    kept_borrowed (ground_of (g.D.Deciding.known_data c.args.decider.now) (g.D.Deciding.canon c.args.decider.now) c.args.spec.now)
    c.as_ref.result c.args.self.now.kept c.as_ref.ensures.value c.requires.suited.kept

pub returns-clause-exact : goal.returns-clause-exact
returns-clause-exact g c =
    menu_exact (ground_of (g.D.Deciding.known_data c.args.decider.now) (g.D.Deciding.canon c.args.decider.now) c.args.spec.now)
    c.in_ok-node.node.value c.in_ok-next.next.value c.in_ok-next.ensures.kept c.in_ok-menu.menu
    (entries_kept (ground_of (g.D.Deciding.known_data c.args.decider.now) (g.D.Deciding.canon c.args.decider.now) c.args.spec.now)
    c.in_ok-node.node.value c.in_ok-next.next.value c.deref.result.now c.in_ok-menu.menu c.deref.ensures c.in_ok-next.ensures.kept
    c.in_ok-menu.ensures)
    (state_of c.args.state.now)
    (ap stands_for c.in_ok-node.ensures ∙ (c.in_ok-copy.ensures.same ∙ ap stands_for c.node.ensures))

pub returns-clause-over : goal.returns-clause-over
returns-clause-over g c =
    menu_over (ground_of (g.D.Deciding.known_data c.args.decider.now) (g.D.Deciding.canon c.args.decider.now) c.args.spec.now)
    c.in_ok-node.node.value c.in_ok-next.next.value c.in_ok-next.ensures.kept c.in_ok-menu.menu
    (entries_kept (ground_of (g.D.Deciding.known_data c.args.decider.now) (g.D.Deciding.canon c.args.decider.now) c.args.spec.now)
    c.in_ok-node.node.value c.in_ok-next.next.value c.deref.result.now c.in_ok-menu.menu c.deref.ensures c.in_ok-next.ensures.kept
    c.in_ok-menu.ensures)
    (record { signature = c.requires.signature; is_canon = g.met.D.Deciding.is_canon c.args.decider.now; over = c.requires.over })
    (copied_node (g.D.Deciding.known_data c.args.decider.now) (g.D.Deciding.canon c.args.decider.now) c.args.spec.now c.args.state.now
    c.node.result.now c.in_ok-copy.copy c.in_ok-node.node.value c.node.ensures c.in_ok-copy.ensures.same c.in_ok-copy.ensures.terms
    c.in_ok-copy.ensures.closed c.in_ok-node.ensures c.requires.state c.requires.closed)

pub returns-clause-suits_after : goal.returns-clause-suits_after
returns-clause-suits_after g c = record {
  least = c.requires.suited.least;
  kept = c.in_ok-next.ensures.kept.0;
}
