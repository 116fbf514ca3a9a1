-- States of a specification with their menus, as the code keeps them.
use Rattle.std.specs.Prelude.{List, map}
use Rattle.lotos_base.specs.Signature.{Signature, IsWellFormedSignature}
use Rattle.lotos_base.specs.Term.{Term}
use Rattle.lotos_base.specs.Equation.{Data}
use Rattle.behaviour_semantics.specs.Behaviour.{Behaviour}
use Rattle.behaviour_semantics.specs.Menu.{Exact}
use Rattle.behaviour_semantics.specs.WellFormed.{Every}
use Rattle.behaviour_tree.specs.Closed.{IsClosedNode}
use Rattle.behaviour_tree.specs.DefinitionView.{specification_of}
use Rattle.behaviour_tree.specs.Over.{IsSpecOver, IsStateOf}
use Rattle.behaviour_tree.specs.StateView.{state_of}
use Rattle.behaviour_tree.specs.declared.definitions.Spec.{Spec}
use Rattle.behaviour_tree.specs.declared.states.State.{State}
use Rattle.certificate_theory.specs.Certificate.{ComparedSide, compared_side_of}
use Rattle.menu_builder.specs.HandedOn.{IsEntryOver, menu_entries}
use Rattle.menu_builder.specs.Menus.{entries_in}
use Rattle.bisim_check.specs.declared.surveys.Surveyed.{Surveyed}

-- the side of a comparison that the specification is
abbrev pub side_over : Data → (Term → Term) → Spec → ComparedSide
side_over data_ canon spec = compared_side_of data_ canon (specification_of spec)

-- The specification is over the signature.
pub record IsSideOf (signature : Signature) (spec : Spec) : Type 0 where
  pub signature_ : IsWellFormedSignature signature
  pub over : IsSpecOver signature spec

-- The state is one of the specification.
pub record IsStateIn (signature : Signature) (spec : Spec) (state : State) : Type 0 where
  pub over : IsStateOf signature spec state
  pub closed : IsClosedNode state.node

-- So is the surveyed state, and it stands beside its exact menu.
pub record IsSurveyed (data_ : Data) (canon : Term → Term) (spec : Spec) (surveyed : Surveyed) : Type 0 where
  pub state : IsStateIn data_.signature spec surveyed.state
  pub exact : Exact data_ canon (specification_of spec).processes (state_of surveyed.state) (entries_in surveyed.menu)
  pub entries : Every (IsEntryOver data_.signature) (menu_entries surveyed.menu)

abbrev pub AreSurveyed : Data → (Term → Term) → Spec → List Surveyed → Type 0
AreSurveyed data_ canon spec states = Every (IsSurveyed data_ canon spec) states

-- the behaviour that a surveyed state stands for, and those of a list
abbrev pub behaviour_in : Surveyed → Behaviour
behaviour_in surveyed = state_of surveyed.state

abbrev pub behaviours_in : List Surveyed → List Behaviour
behaviours_in states = map behaviour_in states
