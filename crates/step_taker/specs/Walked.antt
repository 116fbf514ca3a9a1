-- Parts of a walk through a state: the move or the first fault of each, and what can be gone through.
use Rattle.std.specs.Prelude.{◌≡◌, ◌≤◌, ℕ, suc, List, [], ◌++◌, ◌+◌, length, map, slice_get, Option, None, Some, Result, Ok, Err}
use Rattle.lotos_base.specs.Substitution.{Substitution}
use Rattle.lotos_base.specs.Term.{Term}
use Rattle.behaviour_semantics.specs.Behaviour.{Behaviour, Offer, Test, asked_variables, sorts_of}
use Rattle.behaviour_semantics.specs.Derives.{leaves_in}
use Rattle.behaviour_semantics.specs.Fault.{Fault, size, wrong_leaves}
use Rattle.behaviour_semantics.specs.Move.{Move, taken}
use Rattle.behaviour_semantics.specs.Replacement.{binding_of}
use Rattle.behaviour_semantics.specs.Shape as plain
use Rattle.behaviour_semantics.specs.WellFormed.{AreBinders, AreTermsIn, IsBehaviour, IsClosedBehaviour, IsTestOption}
use Rattle.sort_terms.specs.ProfiledTerm.{ProfiledTerm}
use Rattle.sort_terms.specs.declared.sorted.Sorted.{Sorted}
use Rattle.behaviour_tree.specs.BehaviourTerms.{profiles_of}
use Rattle.behaviour_tree.specs.BehaviourView.{terms_of, variables_of}
use Rattle.behaviour_tree.specs.Closed.{IsClosedNode}
use Rattle.behaviour_tree.specs.DefinitionView.{process_of, specification_of}
use Rattle.behaviour_tree.specs.MoveView.{label_of}
use Rattle.behaviour_tree.specs.Over.{AreTermsOf, IsSpecOver}
use Rattle.behaviour_tree.specs.StateView.{node_profiles, stands_for}
use Rattle.behaviour_tree.specs.declared.definitions.Process.{Process}
use Rattle.behaviour_tree.specs.declared.states.Node.{Node}
use Rattle.step_parts.specs.HandedOn.{label_profiles}
use Rattle.step_parts.specs.StepFaults.{kept_number, TellsFault, UnlessMemory}
use Rattle.step_parts.specs.TargetNodes.{HasClosedParts}
use Rattle.step_parts.specs.declared.faults.At.{At}
use Rattle.step_parts.specs.declared.faults.StepFault.{StepFault}
use Rattle.step_taker.specs.Sides.{followed, following_profiles, IsFollowing, IsSideState, side_of, side_profiles}
use Rattle.step_taker.specs.Stands.{fault_at_stand, HasRow, move_at, Row, Stand}
use Rattle.step_taker.specs.Taken.{Ground, setting_on}
use Rattle.step_taker.specs.declared.moved.Moved.{Moved}
use Rattle.step_taker.specs.declared.sides.Following.{Following}
use Rattle.step_taker.specs.declared.sides.Side.{Side}

-- The part stands there: it is this behaviour with this shape, and the walk has come to it.
pub record IsThere (place : Stand) (b : Behaviour) (shape : plain.Shape) (at : At) : Type 0 where
  pub behaviour : b ≡ place.behaviour
  pub same_shape : shape ≡ place.shape
  pub node : at.node ≡ kept_number place.number
  pub leaf : at.leaf ≡ place.next

-- The part has no fault, and this is its move; the walk goes on behind its nodes and its leaves. The target is a state
-- where it is well formed, and its terms and those of the label are of the signature.
pub record IsMoved (base : Ground) (leaves : List Term) (place : Stand) (moved : Moved) : Type 0 where
  pub move : Move
  pub is : move_at (setting_on base) leaves place ≡ Some move
  pub faultless : fault_at_stand (setting_on base) leaves place ≡ None
  pub label : label_of moved.label ≡ move.label
  pub target : stands_for moved.target.value ≡ move.target
  pub node_behind : moved.behind.node ≡ kept_number (place.number + size place.shape)
  pub leaf_behind : moved.behind.leaf ≡ place.next + length move.sorts
  pub parts : HasClosedParts moved.target.value
  pub terms : AreTermsOf base.data_.signature (node_profiles moved.target.value)
  pub values : AreTermsOf base.data_.signature (label_profiles moved.label)

-- The refusal tells the first fault of the part.
pub record IsFirstStepFault (base : Ground) (leaves : List Term) (place : Stand) (fault : StepFault) : Type 0 where
  pub first : Fault
  pub is : fault_at_stand (setting_on base) leaves place ≡ Some first
  pub told : TellsFault first fault

-- The answer is the move of the part, or its first fault.
abbrev pub IsWalked : Ground → List Term → Stand → Result Moved StepFault → Type 0
IsWalked base leaves place (Ok moved) = IsMoved base leaves place moved
IsWalked base leaves place (Err fault) = UnlessMemory (IsFirstStepFault base leaves place) fault

-- The part stands one node below the whole, and its leaves begin where those of the whole do.
pub record IsPartBelow (whole part : Stand) : Type 0 where
  pub number : part.number ≡ suc whole.number
  pub sizes : size whole.shape ≡ suc (size part.shape)
  pub next : part.next ≡ whole.next

-- The answer is what the rule of a node makes of the move of its part, where the rule is given what it needs.
abbrev pub IsMadeBy : (Ground → Row) → (Ground → Type 0) → At → Moved → Result Moved StepFault → Type 0
IsMadeBy row Given at moved result =
    (base : Ground) (leaves : List Term) (whole part : Stand) → at.node ≡ kept_number whole.number
    → HasRow (setting_on base) leaves whole part (row base) → IsPartBelow whole part → Given base
    → IsMoved base leaves part moved → IsWalked base leaves whole result

-- The specification and the leaves are over the signature, and so many leaves are there.
pub record IsStepWalk (base : Ground) (leaves : List Sorted) (next : ℕ) : Type 0 where
  pub over : IsSpecOver base.data_.signature base.spec
  pub leaves_of_signature : AreTermsOf base.data_.signature (profiles_of leaves)
  pub within : next ≤ length leaves

-- the behaviour is closed and well formed over the specification
abbrev pub IsClosedOn : Ground → Behaviour → Type 0
IsClosedOn base b = IsClosedBehaviour base.data_.signature (specification_of base.spec) b

-- A part that a walk goes through: closed and well formed over the specification, with terms of the signature.
pub record IsPassable (base : Ground) (b : Behaviour) (terms : List ProfiledTerm) : Type 0 where
  pub closed : IsClosedOn base b
  pub terms_of_signature : AreTermsOf base.data_.signature terms

-- So a node that is a state, and so a side.
pub record IsPassableNode (base : Ground) (node : Node) : Type 0 where
  pub passable : IsPassable base (stands_for node) (node_profiles node)
  pub states : IsClosedNode node

pub record IsPassableSide (base : Ground) (side : Side) : Type 0 where
  pub passable : IsPassable base (side_of side) (side_profiles side)
  pub states : IsSideState side

-- So the right side of `>>`: under its binder it is well formed, and its environment closes it.
pub record IsPassableFollowing (base : Ground) (side : Following) : Type 0 where
  pub binders : AreBinders base.data_.signature (variables_of side.variables.now.items)
  pub closed : IsBehaviour base.data_.signature (length (specification_of base.spec).gate_names)
      (specification_of base.spec).processes (variables_of side.variables.now.items ++ []) (followed side)
  pub terms_of_signature : AreTermsOf base.data_.signature (following_profiles side)
  pub states : IsFollowing side

-- The process is one of the specification, and it is called with these values, of the sorts of its parameters.
pub record IsCalled (base : Ground) (called : Process) (values : List Sorted) : Type 0 where
  pub number : ℕ
  pub there : slice_get base.spec.processes.items number ≡ Some called
  pub fitting : AreTermsIn base.data_.signature [] (process_of called).parameters (terms_of values)
  pub terms_of_signature : AreTermsOf base.data_.signature (profiles_of values)

-- the values that the leaves of an action give its variables
abbrev pub chosen_values : (Term → Term) → List Offer → List Term → ℕ → Substitution
chosen_values canon offers leaves next =
    binding_of (asked_variables offers) (map canon (taken (leaves_in leaves) next (sorts_of (asked_variables offers))))

-- The leaves of an action are values for its variables, in whose scope its test and what comes after it are well formed.
pub record IsChosen (base : Ground) (offers : List Offer) (test : Option Test) (b : Behaviour) (leaves : List Term) (next : ℕ) : Type 0
  where
    pub binders : AreBinders base.data_.signature (asked_variables offers)
    pub tested : IsTestOption base.data_.signature (asked_variables offers ++ []) test
    pub closed : IsBehaviour base.data_.signature (length (specification_of base.spec).gate_names)
        (specification_of base.spec).processes (asked_variables offers ++ []) b
    pub right : wrong_leaves base.data_.signature leaves next (sorts_of (asked_variables offers)) ≡ None
