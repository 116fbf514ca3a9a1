-- What the code makes of presentations that it joins.
use Rattle.std.specs.Prelude.{◌≡◌, List, None}
use Rattle.type_definitions.specs.Presentation.{Presentation as PlainPresentation}
use Rattle.type_definitions.specs.Union.{Mentioned, with_mentioned, mention_fault, union_of, union_fault}
use Rattle.type_definitions.specs.FaultView.{IsFaultFound}
use Rattle.type_definitions.specs.declared.type_faults.TypeFault.{TypeFault}
use Rattle.type_presentations.specs.PresentationView.{IsSound, IsWithinLimits, presentation_of}
use Rattle.type_presentations.specs.declared.presentations.Presentation.{Presentation}

-- The mention brings no clash and not too much, and the presentation of the code is the first one joined with what it brings.
pub record IsJoined (first : PlainPresentation) (mention : Mentioned) (p : Presentation) : Type 0 where
  pub none : mention_fault first mention ≡ None
  pub made : presentation_of p ≡ with_mentioned first mention
  pub sound : IsSound p
  pub within : IsWithinLimits p

-- The fault of the code is the first one that the mention brings.
pub record IsJoinFault (first : PlainPresentation) (mention : Mentioned) (fault : TypeFault) : Type 0 where
  pub found : IsFaultFound (mention_fault first mention) fault

-- The mentions have no fault, and the presentation of the code is their union.
pub record IsUnited (mentions : List Mentioned) (p : Presentation) : Type 0 where
  pub none : union_fault mentions ≡ None
  pub made : presentation_of p ≡ union_of mentions
  pub sound : IsSound p
  pub within : IsWithinLimits p

-- The fault of the code is the first one of the mentions.
pub record IsUnionFault (mentions : List Mentioned) (fault : TypeFault) : Type 0 where
  pub found : IsFaultFound (union_fault mentions) fault
