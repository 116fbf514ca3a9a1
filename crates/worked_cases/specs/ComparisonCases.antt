-- Worked cases on labels that are compared, on entries of a menu, and on runs.
use Rattle.std.specs.Prelude.{[], ◌∷◌}
use Rattle.behaviour_semantics.specs.Behaviour.{Behaviour, stop, inner_action, let_be}
use Rattle.behaviour_semantics.specs.Label.{inner_event, gate_event, exit_event}
use Rattle.behaviour_semantics.specs.Shape.{Shape, Derivation, act, inner_step, left_side, right_side, let_bound}
use Rattle.behaviour_semantics.specs.Rule.{as_given}
use Rattle.behaviour_semantics.specs.Alike.{AlikeLabels}
use Rattle.behaviour_semantics.specs.Solving.{Entry}
use Rattle.behaviour_semantics.specs.Menu.{EqualLabels, HasEntry}
use Rattle.behaviour_semantics.specs.Run.{Reaches}
use Rattle.lotos_base.specs.SmallData.{nought}
use Rattle.worked_cases.specs.BehaviourSamples.{one, nat, nat_variable, gate_a, gate_b, event, sample_data, sample_canon}
use Rattle.worked_cases.specs.Showing.{entry}
use Rattle.worked_cases.specs.ValueCases.{sum, giving_value}

-- Labels are equal, and alike, where kind, gate and number of values agree and the values are equal.
pub record LabelsAreCompared : Type 0 where
  pub equal : EqualLabels sample_data (gate_event gate_a (sum ∷ [])) (gate_event gate_a (one ∷ []))
  pub not_at_another_gate : EqualLabels sample_data (gate_event gate_a []) (gate_event gate_b []) → ⊥
  pub not_with_more_values : EqualLabels sample_data (gate_event gate_a []) (gate_event gate_a (one ∷ [])) → ⊥
  pub not_with_another_value : EqualLabels sample_data (exit_event (nought ∷ [])) (exit_event (one ∷ [])) → ⊥
  pub not_of_another_kind : EqualLabels sample_data inner_event (exit_event []) → ⊥
  pub not_alike_at_another_gate : AlikeLabels sample_data (gate_event gate_a []) (gate_event gate_b []) → ⊥
  pub not_alike_of_another_kind : AlikeLabels sample_data inner_event (exit_event []) → ⊥

abbrev pub left_entry : Entry
left_entry = entry (left_side act) (gate_event gate_a []) [] [] []

abbrev pub by : Shape → Derivation
by shape = record { shape = shape; leaves = [] }

-- An entry stands for derivations of its shape, and for no others with its label.
pub record EntriesHaveTheirShapes : Type 0 where
  pub left : HasEntry sample_data (left_entry ∷ []) (by (left_side act)) (gate_event gate_a [])
  pub not_right : HasEntry sample_data (left_entry ∷ []) (by (right_side act)) (gate_event gate_a []) → ⊥
  pub not_another_label : HasEntry sample_data (left_entry ∷ []) (by (left_side act)) (gate_event gate_b []) → ⊥

-- `a; b; stop` and `let x:Nat = Succ(0) + 0 in i; h !x; stop`
abbrev pub two_events : Behaviour
two_events = event gate_a (event gate_b stop)

abbrev pub giving_after_an_inner_event : Behaviour
giving_after_an_inner_event = let_be ((nat_variable 0, sum) ∷ []) (inner_action (giving_value (nat 0)))

-- A run goes from behaviour to behaviour, with values in the form that is asked for; without a derivation it stays.
pub record RunsGoOn : Type 0 where
  pub two_moves : Reaches sample_data as_given [] two_events (by act ∷ by act ∷ []) stop
  pub kept : Reaches sample_data sample_canon [] giving_after_an_inner_event (by (let_bound inner_step) ∷ []) (giving_value one)
  pub given : Reaches sample_data as_given [] giving_after_an_inner_event (by (let_bound inner_step) ∷ []) (giving_value sum)
  pub not_elsewhere : Reaches sample_data as_given [] stop [] (inner_action stop) → ⊥
