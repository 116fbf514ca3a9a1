-- The operations that are found by name, form and profile.
use Rattle.std.specs.Prelude.{◌≡◌, ◌<◌, ◌^◌, true, List, [], length, map}
use Rattle.std.specs.Str.{bytes_eq}
use Rattle.lotos_base.specs.Signature.{Operation}
use Rattle.sort_terms.specs.WellFormedTest.{all_differ, are_one_operation}
use Rattle.type_definitions.specs.Presentation.{with_new}
use Rattle.type_presentations.specs.Keys.{profile_key}
use Rattle.type_renaming.specs.declared.profile_index.ProfileIndex.{ProfileIndex}

-- The index has the profiles of the operations, each once.
abbrev pub HasProfiles : ProfileIndex → List Operation → Type 0
HasProfiles index operations =
    map (λ key. key.items) index.profiles.keys ≡ with_new bytes_eq [] (map profile_key operations)

-- It has those of fewer than 2 ^ 32 operations, no two of which have one name, form and profile.
abbrev pub AreFewProfiles : ProfileIndex → Type 0
AreFewProfiles index = (operations : List Operation) × HasProfiles index operations
    × (all_differ are_one_operation operations ≡ true) × (length operations < 2 ^ 32)
