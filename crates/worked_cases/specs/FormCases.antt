-- Worked cases on the forms of behaviours: calls, relabellings, ends, disabling, hiding, meeting gates, listed gates.
use Rattle.std.specs.Prelude.{[], ◌∷◌, codes, None}
use Rattle.behaviour_semantics.specs.Behaviour.{Behaviour, stop, exit_with, parallel, hide, enable, disable, choose_gate, par_gate, call, relabel, give, ask, exit_value, any_of, no_gates, all_gates, at_gates, Process}
use Rattle.behaviour_semantics.specs.Label.{inner_event, gate_event, exit_event}
use Rattle.behaviour_semantics.specs.Shape.{act, quit, left_side, right_side, both_sides, hidden, enabled, at_gate, called, relabelled}
use Rattle.lotos_base.specs.SmallData.{nought}
use Rattle.worked_cases.specs.BehaviourSamples.{nat_sort, one, nat, nat_variable, gate_a, gate_b, gate_g, gate_h, gate_x, gate_y, gate_z, offering, event, sample_test}
use Rattle.worked_cases.specs.Showing.{HasMenu, Steps, gives, as_it_is, event_line, draft, entry}

-- `process P[x, y] := x; stop |[x]| y; y; stop`, and its call `P[a, a]`
abbrev pub one_side_waits : Process
one_side_waits = record {
  name = codes "P";
  gates = gate_x ∷ gate_y ∷ [];
  parameters = [];
  exit = None;
  body = parallel (at_gates (gate_x ∷ [])) (event gate_x stop) (event gate_y (event gate_y stop));
}

abbrev pub called_twice : Behaviour
called_twice = call 0 (gate_a ∷ gate_a ∷ []) []

abbrev pub after_one : Behaviour
after_one = relabel ((gate_x, gate_a) ∷ (gate_y, gate_a) ∷ []) (parallel (at_gates (gate_x ∷ [])) (event gate_x stop) (event gate_y stop))

abbrev pub after_two : Behaviour
after_two = relabel ((gate_x, gate_a) ∷ (gate_y, gate_a) ∷ []) (parallel (at_gates (gate_x ∷ [])) (event gate_x stop) stop)

-- A call relabels the labels of its body, so one actual gate for two formal ones does not merge what they stand for:
-- the left side waits at x, although both gates are called a, and after two steps nothing is possible.
pub record ACallKeepsItsGatesApart : Type 0 where
  pub menu : HasMenu (one_side_waits ∷ []) called_twice (event_line (called (right_side act)) (gate_event gate_a []) ∷ [])
  pub first : Steps (one_side_waits ∷ []) called_twice (called (right_side act)) [] (gate_event gate_a []) after_one
  pub after_first : HasMenu (one_side_waits ∷ []) after_one (event_line (relabelled (right_side act)) (gate_event gate_a []) ∷ [])
  pub second : Steps (one_side_waits ∷ []) after_one (relabelled (right_side act)) [] (gate_event gate_a []) after_two
  pub after_second : HasMenu (one_side_waits ∷ []) after_two []

-- `relabel a for x in (x; P[x, b])`, `relabel h for b in (b; relabel b for y in (y; stop))` and
-- `relabel a for x in (x; stop)`
abbrev pub relabelled_call : Behaviour
relabelled_call = relabel ((gate_x, gate_a) ∷ []) (event gate_x (call 0 (gate_x ∷ gate_b ∷ []) []))

abbrev pub relabelled_twice : Behaviour
relabelled_twice = relabel ((gate_b, gate_h) ∷ []) (event gate_b (relabel ((gate_y, gate_b) ∷ []) (event gate_y stop)))

abbrev pub relabelled_once : Behaviour
relabelled_once = relabel ((gate_x, gate_a) ∷ []) (event gate_x stop)

-- A target stays relabelled: a call has its actual gates relabelled, two relabellings become one, and `stop` stays.
pub record ATargetStaysRelabelled : Type 0 where
  pub call_menu : HasMenu (one_side_waits ∷ []) relabelled_call (event_line (relabelled act) (gate_event gate_a []) ∷ [])
  pub of_a_call : Steps (one_side_waits ∷ []) relabelled_call (relabelled act) [] (gate_event gate_a []) (call 0 (gate_a ∷ gate_b ∷ []) [])
  pub relabelling_menu : HasMenu [] relabelled_twice (event_line (relabelled act) (gate_event gate_h []) ∷ [])
  pub of_a_relabelling : Steps [] relabelled_twice (relabelled act) [] (gate_event gate_h [])
      (relabel ((gate_y, gate_h) ∷ (gate_b, gate_h) ∷ []) (event gate_y stop))
  pub stop_menu : HasMenu [] relabelled_once (event_line (relabelled act) (gate_event gate_a []) ∷ [])
  pub of_stop : Steps [] relabelled_once (relabelled act) [] (gate_event gate_a []) stop

-- `exit(0, any Nat) ||| exit(any Nat, Succ(0))`, this before `>> accept m, n:Nat in g !m !n; stop`, and what that becomes
abbrev pub both_ending : Behaviour
both_ending = parallel no_gates (exit_with (exit_value nought ∷ any_of nat_sort ∷ [])) (exit_with (any_of nat_sort ∷ exit_value one ∷ []))

abbrev pub passing_on_values : Behaviour
passing_on_values = enable both_ending (nat_variable 0 ∷ nat_variable 1 ∷ []) (offering gate_g (give (nat 0) ∷ give (nat 1) ∷ []) stop)

abbrev pub passed_on : Behaviour
passed_on = offering gate_g (give nought ∷ give one ∷ []) stop

-- Both sides of a parallel end together, with equal values, and the right side of `>>` gets these.
pub record BothSidesEndTogether : Type 0 where
  pub sides : HasMenu [] both_ending (
      gives (draft (both_sides quit quit) (exit_event (nought ∷ nat 0 ∷ [])) (nat 0 ∷ nat 1 ∷ [])
      (sample_test nought (nat 1) ∷ sample_test (nat 0) one ∷ []))
      (entry (both_sides quit quit) (exit_event (nought ∷ one ∷ [])) [] (one ∷ nought ∷ []) [])
      ∷ []
      )
  pub menu : HasMenu [] passing_on_values (
      gives (draft (enabled (both_sides quit quit)) inner_event (nat 0 ∷ nat 1 ∷ [])
      (sample_test nought (nat 1) ∷ sample_test (nat 0) one ∷ []))
      (entry (enabled (both_sides quit quit)) inner_event [] (one ∷ nought ∷ []) [])
      ∷ []
      )
  pub step : Steps [] passing_on_values (enabled (both_sides quit quit)) (one ∷ nought ∷ []) inner_event passed_on
  pub next : HasMenu [] passed_on (event_line act (gate_event gate_g (nought ∷ one ∷ [])) ∷ [])

-- `a; exit [> b; stop`, and what it becomes after `a`
abbrev pub disabled : Behaviour
disabled = disable (event gate_a (exit_with [])) (event gate_b stop)

abbrev pub disabled_after_a : Behaviour
disabled_after_a = disable (exit_with []) (event gate_b stop)

-- `a; stop [> exit`
abbrev pub disabled_by_an_end : Behaviour
disabled_by_an_end = disable (event gate_a stop) (exit_with [])

-- A disabling stays while its left side goes on, is gone after its left side ended, and is gone once it began.
pub record ADisablingEndsWithItsLeftSide : Type 0 where
  pub menu : HasMenu [] disabled (event_line (left_side act) (gate_event gate_a []) ∷ event_line (right_side act) (gate_event gate_b [])
      ∷ [])
  pub goes_on : Steps [] disabled (left_side act) [] (gate_event gate_a []) disabled_after_a
  pub begins : Steps [] disabled (right_side act) [] (gate_event gate_b []) stop
  pub next : HasMenu [] disabled_after_a (event_line (left_side quit) (exit_event []) ∷ event_line (right_side act) (gate_event gate_b [])
      ∷ [])
  pub ends : Steps [] disabled_after_a (left_side quit) [] (exit_event []) stop
  pub still_begins : Steps [] disabled_after_a (right_side act) [] (gate_event gate_b []) stop
  pub last : HasMenu [] stop []
  pub end_menu : HasMenu [] disabled_by_an_end (event_line (left_side act) (gate_event gate_a [])
      ∷ event_line (right_side quit) (exit_event []) ∷ [])
  pub ends_by_the_right : Steps [] disabled_by_an_end (right_side quit) [] (exit_event []) stop

-- `hide g in (g ?x:Nat; h !x; stop)`, and what it becomes with 1
abbrev pub hiding_a_value : Behaviour
hiding_a_value = hide (gate_g ∷ []) (offering gate_g (ask (nat_variable 0) ∷ []) (offering gate_h (give (nat 0) ∷ []) stop))

abbrev pub hiding_one : Behaviour
hiding_one = hide (gate_g ∷ []) (offering gate_h (give one ∷ []) stop)

-- A hidden event keeps its variable, whose value the rest has.
pub record AHiddenEventKeepsItsVariable : Type 0 where
  pub menu : HasMenu [] hiding_a_value (as_it_is (hidden act) inner_event (nat_sort ∷ []) (nat 0 ∷ []) [] ∷ [])
  pub step : Steps [] hiding_a_value (hidden act) (one ∷ []) inner_event hiding_one
  pub next : HasMenu [] hiding_one (event_line (hidden act) (gate_event gate_h (one ∷ [])) ∷ [])

-- `a; stop || a; stop`, `a; stop ||| a; stop` and `a; stop |[b]| b; stop`
abbrev pub meeting_everywhere : Behaviour
meeting_everywhere = parallel all_gates (event gate_a stop) (event gate_a stop)

abbrev pub meeting_nowhere : Behaviour
meeting_nowhere = parallel no_gates (event gate_a stop) (event gate_a stop)

abbrev pub meeting_at_b : Behaviour
meeting_at_b = parallel (at_gates (gate_b ∷ [])) (event gate_a stop) (event gate_b stop)

-- The sides of `||` meet at each gate, those of `|||` at none, and those of `|[b]|` at b alone.
pub record SidesMeetAtTheirGates : Type 0 where
  pub everywhere_menu : HasMenu [] meeting_everywhere (event_line (both_sides act act) (gate_event gate_a []) ∷ [])
  pub everywhere : Steps [] meeting_everywhere (both_sides act act) [] (gate_event gate_a []) (parallel all_gates stop stop)
  pub nowhere_menu : HasMenu [] meeting_nowhere (event_line (left_side act) (gate_event gate_a [])
      ∷ event_line (right_side act) (gate_event gate_a []) ∷ [])
  pub nowhere : Steps [] meeting_nowhere (left_side act) [] (gate_event gate_a []) (parallel no_gates stop (event gate_a stop))
  pub at_b_menu : HasMenu [] meeting_at_b (event_line (left_side act) (gate_event gate_a []) ∷ [])
  pub at_b : Steps [] meeting_at_b (left_side act) [] (gate_event gate_a []) (parallel (at_gates (gate_b ∷ [])) stop (event gate_b stop))

-- `par z in [a, b] ||| z; stop`; `choice z in [a, b] [] z; stop`
abbrev pub in_parallel : Behaviour
in_parallel = par_gate gate_z (gate_a ∷ gate_b ∷ []) no_gates (event gate_z stop)

abbrev pub at_one_gate : Behaviour
at_one_gate = choose_gate gate_z (gate_a ∷ gate_b ∷ []) (event gate_z stop)

-- A gate `par` has the moves of its relabelled copies side by side, and a gate choice those of one by position.
pub record GatesAreListed : Type 0 where
  pub par_menu : HasMenu [] in_parallel (event_line (left_side (relabelled act)) (gate_event gate_a [])
      ∷ event_line (right_side (relabelled act)) (gate_event gate_b []) ∷ [])
  pub step : Steps [] in_parallel (left_side (relabelled act)) [] (gate_event gate_a [])
      (parallel no_gates stop (relabel ((gate_z, gate_b) ∷ []) (event gate_z stop)))
  pub choice_menu : HasMenu [] at_one_gate (event_line (at_gate 0 act) (gate_event gate_a [])
      ∷ event_line (at_gate 1 act) (gate_event gate_b []) ∷ [])
  pub chosen : Steps [] at_one_gate (at_gate 1 act) [] (gate_event gate_b []) stop
