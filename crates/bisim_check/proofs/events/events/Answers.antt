use Rattle.std.proofs.Common.{List, take, map, sym, subst, arith}
use Rattle.std.proofs.lemmas.List.{length-map, take_all}
use Rattle.lotos_base.specs.Equation.{Data}
use Rattle.lotos_base.specs.Term.{Term}
use Rattle.behaviour_semantics.specs.Solving as solving
use Rattle.behaviour_tree.specs.StateView.{state_of}
use Rattle.menu_builder.specs.HandedOn.{plain_entry, menu_entries}
use Rattle.menu_builder.proofs.HandedOn.{held_before, holds_after, keeps_both, keeps_itself}
use Rattle.menu_builder.specs.Menus.{entries_in}
use Rattle.bisim_check.specs.Events.{event_of, HasNewEvent}
use Rattle.bisim_check.specs.Matching.{AreEvents}
use Rattle.bisim_check.specs.Surveys.{IsSideOf, IsSurveyed, side_over}
use Rattle.bisim_check.specs.declared.events.Event.{Event}
use Rattle.bisim_check.proofs.PairLemmas.{events_more}
use Rattle.bisim_check.proofs.events.events.Goals as goal

pub loop-position-init : goal.loop-position-init
loop-position-init g c = record {
  events = subst (λ (es : List Event). AreEvents (side_over (g.D.Deciding.known_data c.args.data.now)
      (g.D.Deciding.canon c.args.data.now) c.args.spec.now) (state_of c.args.surveyed.now.state)
      (take 0 (entries_in c.args.surveyed.now.menu)) (map event_of es)) (sym c.new-made.ensures.items) tt;
  same_known = keeps_itself;
}

pub add_event-requires-clause-side : goal.add_event-requires-clause-side
add_event-requires-clause-side g c =
    holds_after (λ (d : Data) (k : Term → Term). IsSideOf d.signature c.args.spec.now) c.loop-position.invariant.same_known
    c.requires.side

pub add_event-requires-clause-surveyed : goal.add_event-requires-clause-surveyed
add_event-requires-clause-surveyed g c =
    holds_after (λ (d : Data) (k : Term → Term). IsSurveyed d k c.args.spec.now c.args.surveyed.now)
    c.loop-position.invariant.same_known c.requires.surveyed

pub loop-position-preserved : goal.loop-position-preserved
loop-position-preserved g c =
    let known = g.D.Deciding.known_data c.args.data.now in
    let canon = g.D.Deciding.canon c.args.data.now in
    let spec = c.args.spec.now in
    let surveyed = c.args.surveyed.now in
    record {
      events = events_more (side_over known canon spec) (state_of surveyed.state) (menu_entries surveyed.menu) c.loop-position.position
          (map event_of c.loop-position.made.items) (map event_of c.add_event.new.events.items) (omega arith)
          (λ entry there. held_before (λ (d : Data) (k : Term → Term). HasNewEvent (side_over d k spec) (state_of surveyed.state)
          (plain_entry entry) (map event_of c.loop-position.made.items) (map event_of c.add_event.new.events.items))
          c.loop-position.invariant.same_known (c.in_ok-add_event.ensures.added entry there))
          c.loop-position.invariant.events;
      same_known = keeps_both c.loop-position.invariant.same_known c.in_ok-add_event.ensures.same_known;
    }

pub returns-clause-events : goal.returns-clause-events
returns-clause-events g c =
    let surveyed = c.args.surveyed.now in
    subst (λ (it : List solving.Entry). AreEvents (side_over (g.D.Deciding.known_data c.args.data.now)
    (g.D.Deciding.canon c.args.data.now) c.args.spec.now) (state_of surveyed.state) it (map event_of c.loop-position.made.items))
    (take_all c.loop-position.position (entries_in surveyed.menu)
    (omega (arith, length-map (menu_entries surveyed.menu) plain_entry))) c.loop-position.invariant.events
