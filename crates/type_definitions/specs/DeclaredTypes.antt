-- The one list of types of a text and its libraries, and the types that each one mentions. Types have the numbers of their
-- positions.
use Rattle.std.specs.Prelude.{ℕ, Bool, List, [], ◌∷◌, map}
use Rattle.std.specs.List.{list_any}
use Rattle.std.specs.Str.{bytes_eq}
use Rattle.lotos_base.specs.WrittenTerm.{PlacedName}
use Rattle.syntax_trees.specs.WrittenItem.{WrittenItem, libraries, type_declared, WrittenTypeBody, extends, renames, actualises}
use Rattle.lotos_base.specs.Equation.{Place}
use Rattle.lotos_base.specs.Names.{folded}
use Rattle.type_definitions.specs.FirstPosition.{first_position}

-- A type as it is declared, at the place of its name.
pub record DeclaredType : Type 0 where
  pub place : Place
  pub name : List ℕ
  pub body : WrittenTypeBody

-- The types of a list of items, in order. Mentions of libraries were replaced by the items of their texts before.
abbrev pub types_of : List WrittenItem → List DeclaredType
types_of [] = []
types_of (libraries place names ∷ items) = types_of items
types_of (type_declared place name body ∷ items) = record { place = place; name = name; body = body } ∷ types_of items

-- The types that a type mentions, in text order: its imports; the base of a renaming; the base of an actualisation and
-- then its actual types.
abbrev pub mentions_in : WrittenTypeBody → List PlacedName
mentions_in (extends imports sections) = imports
mentions_in (renames base pairs) = base ∷ []
mentions_in (actualises base actuals pairs) = base ∷ actuals

-- whether the type has this name
abbrev pub is_type_named : List ℕ → DeclaredType → Bool
is_type_named name t = bytes_eq (folded name) (folded t.name)

-- whether a type of the list has this name
abbrev pub is_type_name : List DeclaredType → List ℕ → Bool
is_type_name types name = list_any (is_type_named name) types

-- the number of the first type of this name
abbrev pub type_number : List DeclaredType → List ℕ → ℕ
type_number types name = first_position (is_type_named name) types

-- the numbers of the types of these names
abbrev pub type_numbers : List DeclaredType → List PlacedName → List ℕ
type_numbers types names = map (λ (m : PlacedName). type_number types m.name) names

-- which type mentions which, by numbers
abbrev pub mention_graph : List DeclaredType → List (List ℕ)
mention_graph types = map (λ (t : DeclaredType). type_numbers types (mentions_in t.body)) types
