-- The law on places: of all faults of a text the one that counts comes first.
use Rattle.lotos_base.specs.Signature.{Signature}
use Rattle.syntax_trees.specs.WrittenBehaviour.{WrittenBehaviour}
use Rattle.syntax_trees.specs.WrittenDefinition.{WrittenSpecification}
use Rattle.scope_parts.specs.ScopeFault.{ScopeFault}
use Rattle.scope_parts.specs.Resolution.{Resolution, resolved, faulty}
use Rattle.scope_parts.specs.Scope.{Scope}
use Rattle.scope_parts.specs.Numbering.{Numbers}
use Rattle.scope_parts.specs.Behaviours.{BehaviourIs}
use Rattle.scope_parts.specs.Definitions.{SpecificationIs}
use Rattle.scope_parts.specs.Order.{NotAfter}
use Rattle.scope_parts.specs.BehaviourFaults.{HasFault}
use Rattle.scope_parts.specs.BehaviourPlaces.{Follows}
use Rattle.scope_parts.specs.TextFaults.{TextHasFault}
use Rattle.scope_parts.specs.TextOrder.{PlacesRise}

-- The question comes to a fault exactly where it has one of these faults, and then to one of them after which none of the
-- others comes.
pub record TellsFirstFault {A : Type 0} (Question : Resolution A → Type 0) (Has : ScopeFault → Type 0) : Type 0 where
  pub found : (fault : ScopeFault) → Question (faulty fault) → Has fault
  pub first : (fault other : ScopeFault) → Question (faulty fault) → Has other → NotAfter fault other
  pub none : (x : A) (other : ScopeFault) → Question (resolved x) → ¬ Has other

-- of a behaviour whose places rise along it
abbrev pub BehavioursTellTheFirst : Type 0
BehavioursTellTheFirst = (signature : Signature) (scope : Scope) (numbers : Numbers) (b : WrittenBehaviour) → Follows b
    → TellsFirstFault (BehaviourIs signature scope numbers b) (HasFault signature scope numbers b)

-- of a text whose places rise along it
abbrev pub TextsTellTheFirst : Type 0
TextsTellTheFirst = (signature : Signature) (text : WrittenSpecification) → PlacesRise text
    → TellsFirstFault (SpecificationIs signature text) (TextHasFault signature text)

-- The fault is one of the text, and no other one of it comes before it.
pub record IsFirstScopeFault (signature : Signature) (text : WrittenSpecification) (fault : ScopeFault) : Type 0 where
  pub has : TextHasFault signature text fault
  pub first : (other : ScopeFault) → TextHasFault signature text other → NotAfter fault other

-- The text has no fault.
abbrev pub HasNoFault : Signature → WrittenSpecification → Type 0
HasNoFault signature text = (fault : ScopeFault) → ¬ TextHasFault signature text fault
