-- What an actualisation answers.
use Rattle.std.specs.Prelude.{◌≡◌, None}
use Rattle.type_definitions.specs.Actualisation.{Actualising, actualisation}
use Rattle.type_definitions.specs.ActualisationFaults.{actualising_fault}
use Rattle.type_presentations.specs.PresentationView.{IsSound, IsWithinLimits, presentation_of}
use Rattle.type_presentations.specs.declared.presentations.Presentation.{Presentation}

-- Nothing is wrong with the actualisation, and the presentation of the code is what it makes, sound and within the limits.
pub record IsActualised (a : Actualising) (p : Presentation) : Type 0 where
  pub none : actualising_fault a ≡ None
  pub made : presentation_of p ≡ actualisation a
  pub sound : IsSound p
  pub within : IsWithinLimits p
