use Rattle.std.proofs.Common.{take, map}
use Rattle.behaviour_tree.specs.StateView.{state_of}
use Rattle.menu_builder.specs.HandedOn.{KeepsData}
use Rattle.menu_builder.specs.Menus.{entries_in}
use Rattle.bisim_check.specs.Events.{event_of}
use Rattle.bisim_check.specs.Matching.{AreEvents}
use Rattle.bisim_check.specs.Surveys.{side_over}
use Rattle.bisim_check.proofs.events.events.Given as goal

abbrev pub invariant-loop-position : goal.invariant-loop-position
invariant-loop-position g l = record {
  events : AreEvents (side_over (g.D.Deciding.known_data l.fn.data) (g.D.Deciding.canon l.fn.data) l.spec) (state_of l.surveyed.state)
      (take l.position (entries_in l.surveyed.menu)) (map event_of l.made.items);
  same_known : KeepsData g.D.Deciding.known_data g.D.Deciding.canon l.fn.data l.data;
}
