use Rattle.std.proofs.Common.{◌≡◌, List, [], refl}
use Rattle.lotos_base.specs.Term.{Term}
use Rattle.behaviour_semantics.specs.Label.{gate_event}
use Rattle.behaviour_semantics.specs.Shape.{act, left_side, right_side}
use Rattle.behaviour_semantics.specs.Solving.{Entry}
use Rattle.behaviour_semantics.specs.Menu.{EqualLabels, label_at}
use Rattle.worked_cases.specs.BehaviourSamples.{gate_b, sample_data}
use Rattle.worked_cases.specs.ComparisonCases.{left_entry}
use Rattle.worked_cases.proofs.CaseLemmas.{one_entry}
use Rattle.worked_cases.proofs.comparison_cases.entries_have_their_shapes.Goals as goal

-- no entry at the gate a has an event at the gate b
other_gate : (values : List Term) → EqualLabels sample_data (label_at left_entry values) (gate_event gate_b []) → ⊥
other_gate values h = absurd (cc h.0)

other_shape : left_side act ≡ right_side act → ⊥
other_shape e = absurd (cc e)

pub returns : goal.returns
returns c = record {
  left = record {
    entry = left_entry;
    listed = (0, refl);
    shape = refl;
    values = [];
    meets = record { sorted = tt; met = tt };
    leaves = tt;
    labels = (refl, tt);
  };
  not_right = λ h. other_shape (one_entry (λ (e : Entry). e.shape ≡ right_side act) left_entry h.entry h.listed h.shape);
  not_another_label = λ h. other_gate h.values (one_entry
      (λ (e : Entry). EqualLabels sample_data (label_at e h.values) (gate_event gate_b [])) left_entry h.entry h.listed h.labels);
}
