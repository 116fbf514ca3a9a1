-- What faults of derivations obey.
use Rattle.std.specs.Prelude.{◌≡◌, ◌<◌, ◌≤◌, ◌⊎◌, ℕ, List, length, None, Some}
use Rattle.lotos_base.specs.Term.{Term}
use Rattle.lotos_base.specs.Equation.{Data}
use Rattle.behaviour_semantics.specs.Behaviour.{Behaviour, Process, Specification}
use Rattle.behaviour_semantics.specs.Label.{Label}
use Rattle.behaviour_semantics.specs.Shape.{Shape, Derivation}
use Rattle.behaviour_semantics.specs.Move.{Setting, Move, move_of}
use Rattle.behaviour_semantics.specs.Derives.{DerivesCanonically, leaves_in}
use Rattle.behaviour_semantics.specs.Fault.{Fault, size, fault_from, fault_of}
use Rattle.behaviour_semantics.specs.FaultyNode.{NodePlace, IsSoundMove, IsFaulty}
use Rattle.behaviour_semantics.specs.WellFormed.{AreOver}

-- The setting with values in canonical form.
abbrev pub kept_setting : Data → (Term → Term) → List Process → Setting
kept_setting data_ canon processes = record { signature = data_.signature; represent = canon; processes = processes }

-- The first node of a derivation.
abbrev pub root_of : Shape → Behaviour → NodePlace
root_of shape b = record { shape = shape; number = 0; next = 0; behaviour = b }

-- a derivation has no fault exactly where it gives the behaviour a move with canonical values
pub record FaultlessWhereKept : Type 0 where
  pub kept :
      (data_ : Data) (canon : Term → Term) (specification : Specification) (b : Behaviour) →
      AreOver data_ canon specification b →
      (d : Derivation) →
      fault_of data_ canon specification.processes b d ≡ None →
      (label : Label) × (target : Behaviour) × DerivesCanonically data_ canon specification.processes b d label target
  pub faultless :
      (data_ : Data) (canon : Term → Term) (specification : Specification) (b : Behaviour) →
      AreOver data_ canon specification b →
      (d : Derivation) (label : Label) (target : Behaviour) →
      DerivesCanonically data_ canon specification.processes b d label target →
      fault_of data_ canon specification.processes b d ≡ None
  -- the same of each shape, wherever its nodes and leaves are numbered from
  pub sound :
      (data_ : Data) (canon : Term → Term) (specification : Specification) (b : Behaviour) →
      AreOver data_ canon specification b →
      (leaves : List Term) (shape : Shape) (node next : ℕ) →
      next ≤ length leaves →
      fault_from (kept_setting data_ canon specification.processes) leaves shape node next b ≡ None →
      (m : Move) × (move_of (kept_setting data_ canon specification.processes) (leaves_in leaves) shape next b ≡ Some m)
      × IsSoundMove data_ leaves next m
  pub sound_faultless :
      (data_ : Data) (canon : Term → Term) (specification : Specification) (b : Behaviour) →
      AreOver data_ canon specification b →
      (leaves : List Term) (shape : Shape) (node next : ℕ) (m : Move) →
      next ≤ length leaves →
      move_of (kept_setting data_ canon specification.processes) (leaves_in leaves) shape next b ≡ Some m →
      IsSoundMove data_ leaves next m →
      fault_from (kept_setting data_ canon specification.processes) leaves shape node next b ≡ None

-- The fault is one of the derivation, and each other one stands at a later node.
pub record IsFirstFault (data_ : Data) (setting : Setting) (leaves : List Term) (root : NodePlace) (f : Fault) : Type 0 where
  pub is_fault : IsFaulty data_ setting leaves root f
  pub first : (g : Fault) → IsFaulty data_ setting leaves root g → (g ≡ f) ⊎ (f.node < g.node)

-- the fault of a derivation is the first one in preorder: where there is a faulty node, it is the one with the least number,
-- and else leaves are left over; where there is no fault, no node is faulty; and all faulty nodes are nodes of the shape
pub record FaultsAreTheFirst : Type 0 where
  pub first :
      (data_ : Data) (canon : Term → Term) (specification : Specification) (b : Behaviour) →
      AreOver data_ canon specification b →
      (leaves : List Term) (shape : Shape) (f : Fault) →
      fault_from (kept_setting data_ canon specification.processes) leaves shape 0 0 b ≡ Some f →
      IsFirstFault data_ (kept_setting data_ canon specification.processes) leaves (root_of shape b) f
  pub none :
      (data_ : Data) (canon : Term → Term) (specification : Specification) (b : Behaviour) →
      AreOver data_ canon specification b →
      (leaves : List Term) (shape : Shape) →
      fault_from (kept_setting data_ canon specification.processes) leaves shape 0 0 b ≡ None →
      (g : Fault) →
      IsFaulty data_ (kept_setting data_ canon specification.processes) leaves (root_of shape b) g →
      ⊥
  pub nodes :
      (data_ : Data) (setting : Setting) (leaves : List Term) (shape : Shape) (b : Behaviour) (g : Fault) →
      IsFaulty data_ setting leaves (root_of shape b) g →
      g.node < size shape
