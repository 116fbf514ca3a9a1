-- The types that have their presentations, and what is so of each.
use Rattle.std.specs.Prelude.{◌≡◌, ℕ, List, Option, None, Some, map, slice_get}
use Rattle.type_definitions.specs.Presentation.{Presentation as PlainPresentation, nothing}
use Rattle.type_definitions.specs.Union.{Mentioned}
use Rattle.type_definitions.specs.Flattened.{declared_with}
use Rattle.type_definitions.specs.TypeView.{declared_type_of}
use Rattle.type_presentations.specs.NamesView.{HasNames}
use Rattle.type_presentations.specs.PresentationView.{presentation_of, IsSound, IsWithinLimits}
use Rattle.type_presentations.specs.declared.presentations.Presentation.{Presentation}
use Rattle.type_presentations.specs.declared.presented.PresentedType.{PresentedType}
use Rattle.type_presentations.specs.declared.presented.PresentedTypes.{PresentedTypes}

-- a type at its name, with its presentation
abbrev pub presented_of : PresentedType → Mentioned
presented_of presented = declared_with (declared_type_of presented.text) (presentation_of presented.presentation)

-- the types in their order
abbrev pub presented_in : PresentedTypes → List Mentioned
presented_in types = map presented_of types.types.items

-- The presentation is sound and not too large.
abbrev pub IsSoundPresentation : Presentation → Type 0
IsSoundPresentation p = IsSound p × IsWithinLimits p

-- Names and presentations are those of the types, and each presentation is sound.
pub record AreSoundTypes (types : PresentedTypes) : Type 0 where
  pub names : HasNames types.names (map (λ (t : Mentioned). t.at.name) (presented_in types))
  pub each : (i : ℕ) (t : PresentedType) → slice_get types.types.items i ≡ Some t → IsSoundPresentation t.presentation
  pub nothing_there : presentation_of types.nothing ≡ nothing
  pub nothing_sound : IsSoundPresentation types.nothing

-- the presentation of one of them, if there is one
abbrev pub presentation_at : Option Mentioned → PlainPresentation
presentation_at None = nothing
presentation_at (Some t) = t.presentation

-- The presentation is that of the type of this number; nothing where there is none.
abbrev pub IsPresentationAt : List Mentioned → ℕ → PlainPresentation → Type 0
IsPresentationAt types number p = p ≡ presentation_at (slice_get types number)
