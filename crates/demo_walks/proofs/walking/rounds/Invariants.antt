use Rattle.std.proofs.Common.{◌≡◌}
use Rattle.history_lines.specs.HandedOn.{basis_over, KeepsData}
use Rattle.demo_walks.specs.DemoWalk.{GoesThrough, rounds_steps}
use Rattle.demo_walks.specs.WalkView.{IsOnWalk, walk_reached, walk_values_of}
use Rattle.demo_walks.proofs.walking.rounds.Given as goal

-- the rounds before this one are done
abbrev pub invariant-loop : goal.invariant-loop
invariant-loop g l = record {
  leads : GoesThrough (basis_over (g.D.Deciding.known_data l.fn.data) (g.D.Deciding.canon l.fn.data) l.fn.session.spec)
      (rounds_steps (walk_values_of l.values) l.cells l.counter) (walk_reached l.fn.session) (walk_reached l.session);
  on_walk : IsOnWalk g.M.MenuMaker.suits (g.D.Deciding.known_data l.fn.data) (g.D.Deciding.canon l.fn.data) l.session l.tally;
  same_spec : l.session.spec ≡ l.fn.session.spec;
  same_known : KeepsData g.D.Deciding.known_data g.D.Deciding.canon l.fn.data l.data;
}
