-- Drafts: the move of a shape with variables for its leaves, and with what is asked collected as conditions.
use Rattle.std.specs.Prelude.{◌≡◌, ℕ, suc, ◌-◌, ◌+◌, max, List, [], ◌∷◌, map, Option, Some, option_map}
use Rattle.lotos_base.specs.Term.{Term, variable, node}
use Rattle.lotos_base.specs.Equation.{Data, Variable}
use Rattle.lotos_base.specs.Substitution.{Substitution, substituted, renaming}
use Rattle.behaviour_semantics.specs.Behaviour.{Behaviour, stop, exit_with, action, inner_action, guard, choice, parallel, hide, enable, disable, let_be, choose_value, choose_gate, par_gate, call, relabel, Test, Process, asked_variables, let_variables}
use Rattle.behaviour_semantics.specs.Label.{Label, inner_event, gate_event, exit_event}
use Rattle.behaviour_semantics.specs.Replacement.{test_with}
use Rattle.behaviour_semantics.specs.Shape.{Shape}
use Rattle.behaviour_semantics.specs.Rule.{AreValues, AllHold}
use Rattle.behaviour_semantics.specs.Move.{Move, move_of, taken}
use Rattle.behaviour_semantics.specs.Derives.{leaves_in}

-- A draft: the shape, the label, the leaves, of which leaf number `k` is the variable number `k`, and the conditions.
pub record Draft : Type 0 where
  pub shape : Shape
  pub label : Label
  pub leaves : List Term
  pub conditions : List Test

-- The label with terms put in for variables.
abbrev pub label_with : Substitution → Label → Label
label_with values inner_event = inner_event
label_with values (gate_event g terms) = gate_event g (map (substituted values) terms)
label_with values (exit_event terms) = exit_event (map (substituted values) terms)

-- The draft with terms put in for its variables.
abbrev pub draft_with : Substitution → Draft → Draft
draft_with values draft = record {
  shape = draft.shape;
  label = label_with values draft.label;
  leaves = map (substituted values) draft.leaves;
  conditions = map (test_with values) draft.conditions;
}

-- The least number above those of the variables.
abbrev pub above_variables : List Variable → ℕ
above_variables [] = 0
above_variables (x ∷ variables) = max (suc x.number) (above_variables variables)

-- A number above each that the behaviour binds. In a closed behaviour these are all that occur.
abbrev pub above : Behaviour → ℕ
above stop = 0
above (exit_with results) = 0
above (action g offers test b) = max (above_variables (asked_variables offers)) (above b)
above (inner_action b) = above b
above (guard test b) = above b
above (choice b c) = max (above b) (above c)
above (parallel meet b c) = max (above b) (above c)
above (hide gates b) = above b
above (enable b variables c) = max (above b) (max (above_variables variables) (above c))
above (disable b c) = max (above b) (above c)
above (let_be bindings b) = max (above_variables (let_variables bindings)) (above b)
above (choose_value x b) = max (suc x.number) (above b)
above (choose_gate g gates b) = above b
above (par_gate g gates meet b) = above b
above (call number gates arguments) = 0
above (relabel pairs b) = above b

-- A number above each that the processes bind.
abbrev pub above_processes : List Process → ℕ
above_processes [] = 0
above_processes (process ∷ processes) =
    max (max (above_variables process.parameters) (above process.body)) (above_processes processes)

-- The first number for leaves, apart from all variables of the behaviour and of the processes.
abbrev pub first_apart : List Process → Behaviour → ℕ
first_apart processes b = max (above_processes processes) (above b)

-- Leaves that are variables, numbered from `base` on, and the same numbered from 0.
abbrev pub leaves_from : ℕ → Substitution
leaves_from base k s = variable (base + k) s

abbrev pub numbered_from_zero : ℕ → Substitution
numbered_from_zero base = renaming (λ n s. n - base)

-- The draft that a move with leaves from `base` on makes.
abbrev pub draft_by : Shape → ℕ → Move → Draft
draft_by shape base m = draft_with (numbered_from_zero base) (record {
  shape = shape;
  label = m.label;
  leaves = taken (leaves_from base) 0 m.sorts;
  conditions = m.asked;
})

-- The draft of a shape in a behaviour: the table's move with bound values and values of the label in canonical
-- form, and with variables for the leaves that are apart from all others. A shape without a move has no draft.
abbrev pub draft_of : Data → (Term → Term) → List Process → Shape → Behaviour → Option Draft
draft_of data_ canon processes shape b =
    let base : ℕ = first_apart processes b in
    option_map (draft_by shape base)
    (move_of (record { signature = data_.signature; represent = canon; processes = processes }) (leaves_from base) shape 0 b)

-- The shape fits the behaviour: it has a draft there.
abbrev pub Fits : Data → (Term → Term) → List Process → Behaviour → Shape → Type 0
Fits data_ canon processes b shape = (draft : Draft) × (draft_of data_ canon processes shape b ≡ Some draft)

-- The sorts of the variables in a list.
abbrev pub variable_sorts : List Term → List ℕ
variable_sorts [] = []
variable_sorts (variable n s ∷ ts) = s ∷ variable_sorts ts
variable_sorts (node f us ∷ ts) = variable_sorts ts

-- The values are ground, one for each leaf of the draft, of its sort, and meet the draft's conditions.
pub record MeetsDraft (data_ : Data) (draft : Draft) (values : List Term) : Type 0 where
  pub sorted : AreValues data_.signature (variable_sorts draft.leaves) values
  pub met : AllHold data_ (map (test_with (leaves_in values)) draft.conditions)
