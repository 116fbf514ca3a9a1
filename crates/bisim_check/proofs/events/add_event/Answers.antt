use Rattle.std.proofs.Common.{[], ◌∷◌, map, ap, sym, ◌∙◌, subst}
use Rattle.std.proofs.lemmas.List.{map-append}
use Rattle.std.proofs.lemmas.Option.{none-some}
use Rattle.lotos_base.proofs.Members.{at_map}
use Rattle.behaviour_semantics.proofs.InstanceLemmas.{every_at}
use Rattle.behaviour_semantics.proofs.OptionLemmas.{some_value}
use Rattle.behaviour_tree.specs.StateView.{state_of}
use Rattle.menu_builder.specs.HandedOn.{plain_entry, IsEntryOver, Entry, menu_entries}
use Rattle.bisim_check.specs.Events.{event_of, IsEventOf}
use Rattle.bisim_check.specs.Readings.{IsClosedOne}
use Rattle.bisim_check.specs.Surveys.{side_over}
use Rattle.bisim_check.proofs.events.add_event.Goals as goal

pub event_at-requires-clause-there : goal.event_at-requires-clause-there
event_at-requires-clause-there g c = (
  c.args.position,
  at_map plain_entry (menu_entries c.args.surveyed.now.menu) c.args.position c.in-Some.entry.now (sym c.in-Some.ensures),
)

pub event_at-requires-clause-over : goal.event_at-requires-clause-over
event_at-requires-clause-over g c =
    (every_at (IsEntryOver (g.D.Deciding.known_data c.args.data.now).signature) (menu_entries c.args.surveyed.now.menu) c.args.position
    c.in-Some.entry.now c.requires.surveyed.entries (sym c.in-Some.ensures)).entry_of

pub event_at-requires-clause-closed : goal.event_at-requires-clause-closed
event_at-requires-clause-closed g c =
    every_at IsClosedOne (menu_entries c.args.surveyed.now.menu) c.args.position c.in-Some.entry.now c.requires.closed
    (sym c.in-Some.ensures)

pub returns-in-None-clause-added : goal.returns-in-None-clause-added
returns-in-None-clause-added g c = λ entry there. absurd (none-some entry (c.in-None.ensures ∙ there))

pub returns-in_ok-push_event-in-Some-clause-added : goal.returns-in_ok-push_event-in-Some-clause-added
returns-in_ok-push_event-in-Some-clause-added g c = λ entry there.
    let made = c.in_ok-made-in-Some.made in record {
      event = event_of made;
      is = subst (λ (e : Entry). IsEventOf (side_over (g.D.Deciding.known_data c.args.data.now) (g.D.Deciding.canon c.args.data.now)
          c.args.spec.now) (state_of c.args.surveyed.now.state) (plain_entry e) (event_of made)) (some_value (c.in-Some.ensures ∙ there))
          c.in_ok-made-in-Some.ensures.event;
      added = ap (map event_of) c.in_ok-push_event-in-Some.ensures ∙ map-append event_of c.args.events.now.items (made ∷ []);
    }
