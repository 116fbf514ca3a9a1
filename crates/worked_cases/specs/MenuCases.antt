-- A worked case on exact menus, over data with one sort, two constants and no equations.
use Rattle.std.specs.Prelude.{List, [], ◌∷◌, codes, None}
use Rattle.lotos_base.specs.Signature.{prefix_form}
use Rattle.lotos_base.specs.Term.{Term, variable, node, no_terms}
use Rattle.lotos_base.specs.Equation.{Data}
use Rattle.behaviour_semantics.specs.Behaviour.{Behaviour, stop, action, choice, give, ask, Specification}
use Rattle.behaviour_semantics.specs.Label.{gate_event}
use Rattle.behaviour_semantics.specs.Rule.{as_given}
use Rattle.behaviour_semantics.specs.Shape.{act, left_side, right_side}
use Rattle.behaviour_semantics.specs.Solving.{Entry}
use Rattle.behaviour_semantics.specs.Derives.{Derives}
use Rattle.behaviour_semantics.specs.Menu.{Exact}
use Rattle.behaviour_semantics.specs.WellFormed.{AreOver}
use Rattle.worked_cases.specs.Showing.{entry}

abbrev pub two_constants : Data
two_constants = record {
  signature = record {
    sorts = record { name = codes "C"; origin = codes "T" } ∷ [];
    operations =
        record { name = codes "c"; form = prefix_form; arguments = []; result = 0; origin = codes "T" }
        ∷ record { name = codes "d"; form = prefix_form; arguments = []; result = 0; origin = codes "T" }
        ∷ [];
  };
  equations = [];
}

abbrev pub first_constant : Term
first_constant = node 0 no_terms

abbrev pub second_constant : Term
second_constant = node 1 no_terms

-- `g !c; stop [] (g ?x:C; stop [] g !c; stop)`, where g is gate 0
abbrev pub three_actions : Behaviour
three_actions =
    choice (action 0 (give first_constant ∷ []) None stop)
    (choice (action 0 (ask (record { name = codes "x"; number = 0; sort = 0 }) ∷ []) None stop)
    (action 0 (give first_constant ∷ []) None stop))

-- a specification of that behaviour
abbrev pub with_three_actions : Specification
with_three_actions = record {
  name = codes "S";
  gate_names = codes "g" ∷ [];
  gates = 0 ∷ [];
  parameters = [];
  exit = None;
  body = three_actions;
  processes = [];
}

-- `g !c`, `g !$1 for $1:C` and `g !c`
abbrev pub three_entries : List Entry
three_entries =
    entry (left_side act) (gate_event 0 (first_constant ∷ [])) [] [] []
    ∷ entry (right_side (left_side act)) (gate_event 0 (variable 0 0 ∷ [])) (0 ∷ []) (variable 0 0 ∷ []) []
    ∷ entry (right_side (right_side act)) (gate_event 0 (first_constant ∷ [])) [] [] []
    ∷ []

-- The data, the specification and the behaviour meet what the laws ask for, and the exact menu has three entries,
-- two of them with one label. With `d` the second entry is derived, and the first entry does not give its label.
pub record EqualLabelsStayInTheMenu : Type 0 where
  pub over : AreOver two_constants as_given with_three_actions three_actions
  pub exact : Exact two_constants as_given [] three_actions three_entries
  pub with_d : Derives two_constants [] three_actions (record { shape = right_side (left_side act); leaves = second_constant ∷ [] })
      (gate_event 0 (second_constant ∷ [])) stop
  pub not_by_the_first : (leaves : List Term) (target : Behaviour)
      → Derives two_constants [] three_actions (record { shape = left_side act; leaves = leaves }) (gate_event 0 (second_constant ∷ []))
      target → ⊥
