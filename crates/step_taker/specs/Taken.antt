-- What a step answers: the move with canonical values that the derivation gives the state, or its first fault.
use Rattle.std.specs.Prelude.{◌≡◌, Some}
use Rattle.lotos_base.specs.Term.{Term}
use Rattle.lotos_base.specs.Equation.{Data}
use Rattle.behaviour_semantics.specs.Derives.{DerivesCanonically}
use Rattle.behaviour_semantics.specs.Fault.{Fault, fault_of}
use Rattle.behaviour_semantics.specs.Move.{Setting}
use Rattle.behaviour_tree.specs.Closed.{IsClosedNode}
use Rattle.behaviour_tree.specs.DefinitionView.{specification_of}
use Rattle.behaviour_tree.specs.MoveView.{derivation_of, label_of}
use Rattle.behaviour_tree.specs.Over.{AreTermsOf, IsStateOf}
use Rattle.behaviour_tree.specs.StateView.{state_of}
use Rattle.behaviour_tree.specs.declared.definitions.Spec.{Spec}
use Rattle.behaviour_tree.specs.declared.moves.Derivation.{Derivation}
use Rattle.behaviour_tree.specs.declared.moves.Label.{Label}
use Rattle.behaviour_tree.specs.declared.states.State.{State}
use Rattle.step_parts.specs.HandedOn.{label_profiles}
use Rattle.step_parts.specs.declared.faults.StepFault.{StepFault}
use Rattle.step_parts.specs.StepFaults.{TellsFault}

-- What a step is taken over: data with a canon, and a specification.
pub record Ground : Type 0 where
  pub data_ : Data
  pub canon : Term → Term
  pub spec : Spec

abbrev pub ground_of : Data → (Term → Term) → Spec → Ground
ground_of data_ canon spec = record { data_ = data_; canon = canon; spec = spec }

-- what moves depend on there
abbrev pub setting_on : Ground → Setting
setting_on base = record {
  signature = base.data_.signature;
  represent = base.canon;
  processes = (specification_of base.spec).processes;
}

-- The label and the target are those of the derivation with canonical values, and the target is a state of the
-- specification.
pub record IsTaken (base : Ground) (state : State) (derivation : Derivation) (label : Label) (target : State) : Type 0 where
  pub keeps : DerivesCanonically base.data_ base.canon (specification_of base.spec).processes (state_of state) (derivation_of derivation)
      (label_of label) (state_of target)
  pub values : AreTermsOf base.data_.signature (label_profiles label)
  pub over : IsStateOf base.data_.signature base.spec target
  pub closed : IsClosedNode target.node

-- The refusal tells the first fault of the derivation.
pub record IsStepFault (base : Ground) (state : State) (derivation : Derivation) (fault : StepFault) : Type 0 where
  pub first : Fault
  pub is : fault_of base.data_ base.canon (specification_of base.spec).processes (state_of state) (derivation_of derivation)
      ≡ Some first
  pub told : TellsFault first fault
