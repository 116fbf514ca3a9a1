-- The plain types that are found by their names.
use Rattle.std.specs.Prelude.{◌≡◌, ◌<◌, ℕ, true, List, length}
use Rattle.type_definitions.specs.DeclaredTypes.{DeclaredType, is_type_name, type_number}
use Rattle.type_definitions.specs.TypeView.{declared_types_of}
use Rattle.type_definitions.specs.declared.type_names.TypeNames.{TypeNames}

abbrev pub types_in : TypeNames → List DeclaredType
types_in names = declared_types_of names.types.items

-- the number is that of the first type of this name
abbrev pub IsNumberOf : List DeclaredType → List ℕ → ℕ → Type 0
IsNumberOf types name n = (is_type_name types name ≡ true) × (type_number types name ≡ n) × (n < length types)
