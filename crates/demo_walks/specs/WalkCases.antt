-- Worked cases: the steps of small walks, and the summaries of small sessions.
use Rattle.std.specs.Prelude.{◌≡◌, ℕ, List, [], ◌∷◌, None, Some, codes}
use Rattle.lotos_base.specs.Term.{Term}
use Rattle.behaviour_semantics.specs.Behaviour.{stop}
use Rattle.behaviour_semantics.specs.Label.{gate_event, inner_event}
use Rattle.history_lines.specs.HandedOn.{Situation, PastStep, Progress, choice_entry, item, nought, small_basis, small_menu, small_succ}
use Rattle.demo_walks.specs.DemoWalk.{WalkStep, WalkValues, round_steps, rounds_steps, walk_steps}
use Rattle.demo_walks.specs.DemoSummary.{entries_seen, last_label, summary_text}

-- the values 0 and 1
abbrev pub two_values : WalkValues
two_values = record { of_first = Some nought; of_others = Some (small_succ nought) }

-- the step by the entry with this number and this value
abbrev pub step_by_entry : ℕ → Term → WalkStep
step_by_entry number value = record { number = number; values = Some (value ∷ []) }

-- the step by the first entry without values
abbrev pub tell : WalkStep
tell = record { number = 1; values = Some [] }

-- The cells put in the order of their numbers, the first one by entry 2. A walk has four rounds and one step more.
pub record WalksHaveSteps : Type 0 where
  pub one_cell :
      walk_steps two_values 1 ≡ step_by_entry 2 nought ∷ step_by_entry 2 nought ∷ step_by_entry 2 nought
      ∷ step_by_entry 2 nought ∷ tell ∷ []
  pub two_cells :
      walk_steps two_values 2
      ≡ step_by_entry 2 nought ∷ step_by_entry 3 (small_succ nought) ∷ step_by_entry 2 nought ∷ step_by_entry 3 (small_succ nought)
      ∷ step_by_entry 2 nought ∷ step_by_entry 3 (small_succ nought) ∷ step_by_entry 2 nought
      ∷ step_by_entry 3 (small_succ nought) ∷ tell ∷ []
  pub round_of_three : round_steps two_values 3 ≡ step_by_entry 2 nought ∷ step_by_entry 3 (small_succ nought)
      ∷ step_by_entry 4 (small_succ nought) ∷ []
  pub no_round : rounds_steps two_values 3 0 ≡ []
  pub no_cell : walk_steps two_values 0 ≡ tell ∷ []
  pub no_value :
      round_steps (record { of_first = Some nought; of_others = None }) 2
      ≡ step_by_entry 2 nought ∷ record { number = 3; values = None } ∷ []

-- menus of two entries, of one, and of none
abbrev pub two_entries : Situation
two_entries = record { state = stop; menu = small_menu }

abbrev pub one_entry : Situation
one_entry = record { state = stop; menu = choice_entry ∷ [] }

abbrev pub no_entries : Situation
no_entries = record { state = stop; menu = [] }

-- a session that has taken no step, and one that has taken two
abbrev pub session_begun : Progress
session_begun = record { situation = two_entries; steps = [] }

abbrev pub first_step : PastStep
first_step = record { item = item 2 (nought ∷ []) inner_event; before = two_entries }

abbrev pub second_step : PastStep
second_step = record { item = item 1 [] (gate_event 1 (small_succ nought ∷ [])); before = one_entry }

abbrev pub two_steps : Progress
two_steps = record { situation = no_entries; steps = first_step ∷ second_step ∷ [] }

-- The first menu counts, each menu counts once, and the last label is that of the last step.
pub record SummariesHaveTexts : Type 0 where
  pub no_steps :
      summary_text small_basis 7 session_begun
      ≡ codes "demo 7\ndata: 2 sorts, 5 operations, 0 equations\nsteps 0\nentries 2\nlast none\n"
  pub some_steps :
      summary_text small_basis 64 two_steps
      ≡ codes "demo 64\ndata: 2 sorts, 5 operations, 0 equations\nsteps 2\nentries 3\nlast h !Succ(0)\n"
  pub entries : entries_seen two_steps ≡ 3
  pub label : last_label two_steps.steps ≡ Some (gate_event 1 (small_succ nought ∷ []))
