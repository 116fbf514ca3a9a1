-- What the code makes of a presentation.
use Rattle.std.specs.Prelude.{◌≡◌, Option, None}
use Rattle.type_definitions.specs.TypeFault.{TypeFault}
use Rattle.type_definitions.specs.Presentation.{Presentation as PlainPresentation}
use Rattle.type_presentations.specs.PresentationView.{IsSound, IsWithinLimits, presentation_of}
use Rattle.type_presentations.specs.declared.presentations.Presentation.{Presentation}

-- No fault was found, and the presentation of the code is this one.
abbrev pub IsMade : Option TypeFault → PlainPresentation → Presentation → Type 0
IsMade found plain p = (found ≡ None) × (presentation_of p ≡ plain) × IsSound p × IsWithinLimits p
