-- The parts of an actualisation as the code has them.
use Rattle.std.specs.Prelude.{◌≡◌, ◌<◌, ◌^◌, ℕ, true, List, length}
use Rattle.lotos_base.specs.WrittenView.{placed_name_of}
use Rattle.lotos_base.specs.declared.names.Name.{Name}
use Rattle.lotos_base.specs.declared.places.Place.{Place}
use Rattle.sort_terms.specs.WellFormedTest.{all_differ, are_one_operation}
use Rattle.type_definitions.specs.Actualisation.{Actualising, actualised_sort}
use Rattle.type_definitions.specs.ProfiledImage.{number_in}
use Rattle.type_presentations.specs.NamesView.{HasNames}
use Rattle.type_presentations.specs.declared.names.NamePositions.{NamePositions}
use Rattle.type_presentations.specs.PairIndexView.{pairs_in}
use Rattle.type_presentations.specs.PairNames.{names_of_sorts}
use Rattle.type_presentations.specs.declared.pair_index.PairIndex.{PairIndex}
use Rattle.type_presentations.specs.PresentationView.{presentation_of}
use Rattle.type_presentations.specs.declared.presentations.Presentation.{Presentation}
use Rattle.type_renaming.specs.ProfilesView.{HasProfiles}
use Rattle.type_renaming.specs.declared.profile_index.ProfileIndex.{ProfileIndex}

-- This is the base, mentioned here.
pub record IsBaseOf (a : Actualising) (base : Presentation) (mention : Place × Name) : Type 0 where
  pub presentation_is : a.base.presentation ≡ presentation_of base
  pub at_is : a.base.at ≡ placed_name_of mention

-- The base is mentioned here, and these are the pairs of sorts and the names of the sorts of the actual types.
pub record AreSortParts (a : Actualising) (mention : Place × Name) (pairs : PairIndex) (names : NamePositions) : Type 0 where
  pub at_is : a.base.at ≡ placed_name_of mention
  pub pairs_are : a.pairs.sort_pairs ≡ pairs_in pairs
  pub names_are : HasNames names (names_of_sorts a.actual.signature)

-- These are the pairs of operations, the new numbers of the sorts of the base, and the operations of the actual types.
pub record AreOperationParts (a : Actualising) (pairs : PairIndex) (sorts : List ℕ) (profiles : ProfileIndex) : Type 0 where
  pub pairs_are : a.pairs.operation_pairs ≡ pairs_in pairs
  pub sorts_are : (n : ℕ) → number_in sorts n ≡ actualised_sort a n
  pub profiles_are : HasProfiles profiles a.actual.signature.operations
  pub differ : all_differ are_one_operation a.actual.signature.operations ≡ true

-- The names are those of a list of fewer than 2 ^ 32.
abbrev pub AreFewNames : NamePositions → Type 0
AreFewNames positions = (names : List (List ℕ)) × HasNames positions names × (length names < 2 ^ 32)
