-- What a menu prints is read back: the labels of its entries, with values put in or without variables, and those of all transitions.
use Rattle.std.specs.Prelude.{◌≡◌, List, []}
use Rattle.lotos_base.specs.Equation.{Data, IsWellFormedData}
use Rattle.lotos_base.specs.Sorting.{IsGround}
use Rattle.lotos_base.specs.Term.{Term}
use Rattle.behaviour_semantics.specs.Behaviour.{Behaviour, Specification}
use Rattle.behaviour_semantics.specs.Label.{Label}
use Rattle.behaviour_semantics.specs.Menu.{Exact, IsEntry, Meets, label_at}
use Rattle.behaviour_semantics.specs.Rule.{label_values}
use Rattle.behaviour_semantics.specs.Solving.{Entry}
use Rattle.behaviour_semantics.specs.Transition.{Transition}
use Rattle.behaviour_semantics.specs.WellFormed.{Every, AreOver}
use Rattle.session_histories.specs.HandedOn.{label_text}
use Rattle.declaration_laws.specs.VisibleGates.{IsOneOf, UsesOnly, UsesFormals}
use Rattle.session_laws.specs.LabelReading.{IsLabelReading}
use Rattle.session_laws.specs.LabelLaws.{HasReadableNames}

-- The list is the exact menu of a state of the specification. The state uses gates that the specification declares, and each process
-- its formal gates: so it is with each state that a session of an accepted specification reaches.
pub record IsShownMenu (data_ : Data) (canon : Term → Term) (specification : Specification) (b : Behaviour) (entries : List Entry)
    : Type 0 where
  pub fine : IsWellFormedData data_
  pub over : AreOver data_ canon specification b
  pub exact : Exact data_ canon specification.processes b entries
  pub names : HasReadableNames data_.signature specification
  pub processes : Every (UsesFormals specification.processes) specification.processes
  pub uses : UsesOnly (IsOneOf specification.gates) specification.processes b

-- No variable is in the label of the entry. Whether values meet the entry's conditions is not asked.
abbrev pub HasPlainLabel : Entry → Type 0
HasPlainLabel entry = Every IsGround (label_values entry.label)

module _ (data_ : Data) (specification : Specification) where
  -- the text of the label is read as this label
  abbrev pub IsLabelReadBack : Label → Type 0
  IsLabelReadBack label = IsLabelReading data_.signature specification (label_text data_.signature specification.gate_names label) label

  -- the labels have one text
  abbrev pub ArePrintedAlike : Label → Label → Type 0
  ArePrintedAlike one other =
      label_text data_.signature specification.gate_names one ≡ label_text data_.signature specification.gate_names other

  pub record MenuIsReadBack (b : Behaviour) (entries : List Entry) : Type 0 where
    -- the label of each transition is read back
    pub transitions : (label : Label) (target : Behaviour) → Transition data_ specification.processes b label target → IsLabelReadBack label
    -- and so is that of each entry with values that meet its conditions
    pub instances :
        (entry : Entry) (values : List Term) → IsEntry entries entry → Meets data_ entry values → IsLabelReadBack (label_at entry values)
    -- and the label of an entry without variables in it, as the menu shows it
    pub shown : (entry : Entry) → IsEntry entries entry → HasPlainLabel entry → IsLabelReadBack entry.label
    -- an entry without variables has such a label, and the empty list of values meets its conditions
    pub plain : (entry : Entry) → IsEntry entries entry → entry.variables ≡ [] → HasPlainLabel entry × Meets data_ entry []
    -- two different labels without variables are never printed alike, also where nothing meets the conditions of their entries
    pub apart :
        (one other : Entry) →
        IsEntry entries one →
        IsEntry entries other →
        HasPlainLabel one →
        HasPlainLabel other →
        ArePrintedAlike one.label other.label →
        one.label ≡ other.label

abbrev pub MenusAreReadBack : Type 0
MenusAreReadBack =
    (data_ : Data) (canon : Term → Term) (specification : Specification) (b : Behaviour) (entries : List Entry)
    → IsShownMenu data_ canon specification b entries
    → MenuIsReadBack data_ specification b entries
