-- Mentions of types with the presentations of these types.
use Rattle.std.specs.Prelude.{◌≡◌, ℕ, List, Some, map, slice_get}
use Rattle.lotos_base.specs.Name.{spelling}
use Rattle.lotos_base.specs.WrittenView.{text_place_of}
use Rattle.type_definitions.specs.Union.{Mentioned}
use Rattle.type_presentations.specs.PresentationView.{presentation_of, IsSound, IsWithinLimits}
use Rattle.type_presentations.specs.declared.mentions.Mention.{Mention}

abbrev pub mentioned_of : Mention → Mentioned
mentioned_of mention = record {
  at = record { place = text_place_of mention.place; name = spelling mention.name.now };
  presentation = presentation_of mention.presentation.now;
}

abbrev pub mentions_of : List Mention → List Mentioned
mentions_of mentions = map mentioned_of mentions

-- Each presentation is sound, and none is too large.
pub record AreSoundMentions (mentions : List Mention) : Type 0 where
  pub sound : (i : ℕ) (mention : Mention) → slice_get mentions i ≡ Some mention → IsSound mention.presentation.now
  pub within : (i : ℕ) (mention : Mention) → slice_get mentions i ≡ Some mention → IsWithinLimits mention.presentation.now
