use Rattle.std.proofs.Common.{◌≡◌}
use Rattle.history_lines.specs.HandedOn.{basis_over, KeepsData}
use Rattle.demo_walks.specs.DemoWalk.{GoesThrough, round_steps}
use Rattle.demo_walks.specs.WalkView.{IsOnWalk, walk_reached, walk_values_of}
use Rattle.demo_walks.proofs.walking.round.Given as goal

-- the cells before this one have put their values
abbrev pub invariant-loop-cell : goal.invariant-loop-cell
invariant-loop-cell g l = record {
  leads : GoesThrough (basis_over (g.D.Deciding.known_data l.fn.data) (g.D.Deciding.canon l.fn.data) l.fn.session.spec)
      (round_steps (walk_values_of l.values) l.cell) (walk_reached l.fn.session) (walk_reached l.session);
  on_walk : IsOnWalk g.M.MenuMaker.suits (g.D.Deciding.known_data l.fn.data) (g.D.Deciding.canon l.fn.data) l.session l.tally;
  same_spec : l.session.spec ≡ l.fn.session.spec;
  same_known : KeepsData g.D.Deciding.known_data g.D.Deciding.canon l.fn.data l.data;
}
