-- Worked menus: what the definitions make of small menus, computed.
use Rattle.std.specs.Prelude.{◌≡◌, ℕ, [], ◌∷◌}
use Rattle.lotos_base.specs.Signature.{prefix_form}
use Rattle.lotos_base.specs.Term.{Term, variable, node, no_terms}
use Rattle.lotos_base.specs.Equation.{Data}
use Rattle.behaviour_semantics.specs.Behaviour.{no_gates, all_gates, at_gates}
use Rattle.behaviour_semantics.specs.Label.{Label, inner_event, gate_event, exit_event}
use Rattle.behaviour_semantics.specs.Shape.{Shape, act, quit, inner_step, left_side, right_side, both_sides, hidden, enabled, passed, at_gate, relabelled}
use Rattle.behaviour_semantics.specs.Solving.{Entry}
use Rattle.shared_entries.specs.PartMenus.{sides_menu, hide_menu, relabel_menu, enable_menu, gates_menu, joins, parallel_menu}
use Rattle.behaviour_semantics.specs.Listing.{shapes_of_drafts}

-- One sort, and one constant of it.
abbrev pub example_data : Data
example_data = record {
  signature = record {
    sorts = record { name = 115 ∷ []; origin = [] } ∷ [];
    operations = record { name = 99 ∷ []; form = prefix_form; arguments = []; result = 0; origin = [] } ∷ [];
  };
  equations = [];
}

abbrev pub example_constant : Term
example_constant = node 0 no_terms

-- An entry without variables and conditions.
abbrev pub plain : Shape → Label → Entry
plain shape label = record { shape = shape; label = label; variables = []; leaves = []; conditions = [] }

-- An entry that asks for one value, which its label has.
abbrev pub asking_at : ℕ → Entry
asking_at g = record {
  shape = act;
  label = gate_event g (variable 0 0 ∷ []);
  variables = 0 ∷ [];
  leaves = variable 0 0 ∷ [];
  conditions = [];
}

pub record WorkedMenus : Type 0 where
  -- an event at a hidden gate becomes the inner event and loses its values; other events and `exit` stay
  pub hidden_events :
      hide_menu (0 ∷ [])
      (plain act (gate_event 0 (example_constant ∷ [])) ∷ plain act (gate_event 1 [])
      ∷ plain quit (exit_event (example_constant ∷ [])) ∷ [])
      ≡ (plain (hidden act) inner_event ∷ plain (hidden act) (gate_event 1 [])
      ∷ plain (hidden quit) (exit_event (example_constant ∷ [])) ∷ [])
  -- before `>>`, `exit` with values of the accepted sorts becomes the inner event, with other values it is no move, and all
  -- else goes on
  pub enabled_events :
      enable_menu example_data.signature (record { name = []; number = 7; sort = 0 } ∷ [])
      (plain (left_side act) (gate_event 0 []) ∷ plain (right_side quit) (exit_event (example_constant ∷ [])) ∷ [])
      ≡ (plain (passed (left_side act)) (gate_event 0 []) ∷ plain (enabled (right_side quit)) inner_event ∷ [])
  pub other_values :
      enable_menu example_data.signature [] (plain quit (exit_event (example_constant ∷ [])) ∷ plain act inner_event ∷ [])
      ≡ (plain (passed act) inner_event ∷ [])
  -- both sides of `[]` and of `[>` keep their labels, left before right, `exit` among them
  pub both_sides_of :
      sides_menu (plain quit (exit_event []) ∷ []) (plain act (gate_event 0 []) ∷ [])
      ≡ (plain (left_side quit) (exit_event []) ∷ plain (right_side act) (gate_event 0 []) ∷ [])
  -- gates are renamed in labels and not in shapes
  pub relabelled_events :
      relabel_menu ((0, 2) ∷ []) (plain act (gate_event 0 []) ∷ plain inner_step inner_event ∷ [])
      ≡ (plain (relabelled act) (gate_event 2 []) ∷ plain (relabelled inner_step) inner_event ∷ [])
  pub gate_choice :
      gates_menu 0 0 (3 ∷ 4 ∷ []) (plain act (gate_event 0 []) ∷ [])
      ≡ (plain (at_gate 0 act) (gate_event 3 []) ∷ plain (at_gate 1 act) (gate_event 4 []) ∷ [])
  -- no side of a parallel moves alone at a gate of its set, nor ends alone, and the inner event is always of one side
  pub alone :
      parallel_menu (at_gates (0 ∷ [])) (plain act (gate_event 0 []) ∷ plain quit (exit_event []) ∷ [])
      (plain act (gate_event 1 []) ∷ plain inner_step inner_event ∷ []) []
      ≡ (plain (right_side act) (gate_event 1 []) ∷ plain (right_side inner_step) inner_event ∷ [])
  -- they move together at such a gate, and end together whatever the set is
  pub together :
      shapes_of_drafts (joins example_data (at_gates (0 ∷ []))
      (plain (left_side act) (gate_event 0 []) ∷ plain (right_side act) (gate_event 1 []) ∷ [])
      (plain act (gate_event 0 []) ∷ plain inner_step (gate_event 1 []) ∷ []))
      ≡ (both_sides (left_side act) act ∷ [])
  pub ending :
      shapes_of_drafts (joins example_data no_gates (plain act (gate_event 0 []) ∷ plain quit (exit_event []) ∷ [])
      (plain act (gate_event 0 []) ∷ plain quit (exit_event []) ∷ []))
      ≡ (both_sides quit quit ∷ [])
  -- the joins stand by the left shape and then by the right one
  pub joins_in_turn :
      shapes_of_drafts
      (joins example_data all_gates (plain (left_side act) (gate_event 0 []) ∷ plain (right_side act) (gate_event 0 []) ∷ [])
      (plain (left_side act) (gate_event 0 []) ∷ plain (right_side act) (gate_event 0 []) ∷ []))
      ≡ (both_sides (left_side act) (left_side act) ∷ both_sides (left_side act) (right_side act)
      ∷ both_sides (right_side act) (left_side act) ∷ both_sides (right_side act) (right_side act) ∷ [])
  -- the variable of the right side is the next one, and its value is to equal that of the left side
  pub equal_values :
      joins example_data all_gates (asking_at 0 ∷ []) (asking_at 0 ∷ [])
      ≡ (record {
        shape = both_sides act act;
        label = gate_event 0 (variable 0 0 ∷ []);
        leaves = variable 0 0 ∷ variable 1 0 ∷ [];
        conditions = record { left = variable 0 0; right = variable 1 0 } ∷ [];
      } ∷ [])
