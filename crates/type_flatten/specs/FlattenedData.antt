-- Laws of flattening: unions, presentations of types and flattened data are well formed where no fault was found.
use Rattle.std.specs.Prelude.{◌≡◌, ℕ, List, None}
use Rattle.lotos_base.specs.Equation.{Data, IsWellFormedData}
use Rattle.syntax_trees.specs.WrittenItem.{WrittenTypeBody}
use Rattle.type_definitions.specs.DeclaredTypes.{DeclaredType}
use Rattle.type_definitions.specs.Presentation.{Presentation}
use Rattle.type_definitions.specs.Union.{Mentioned, union_of, union_fault}
use Rattle.type_definitions.specs.UnionLaws.{IsIn}
use Rattle.type_definitions.specs.Flattened.{flattened_data_of, IsPresentation, IsFlattening}

-- the data of a presentation are well formed: its profiles name sorts that it has, no two of its sorts have one name, no two of
-- its operations one name, form and profile, and each equation is one over them
abbrev pub IsFine : Presentation → Type 0
IsFine p = IsWellFormedData (flattened_data_of p)

-- so is each that is mentioned
abbrev pub AreFine : List Mentioned → Type 0
AreFine all = (m : Mentioned) → IsIn all m → IsFine m.presentation

pub record FlattenedDataAreWellFormed : Type 0 where
  -- a union without a fault
  pub unions : (all : List Mentioned) → AreFine all → union_fault all ≡ None → IsFine (union_of all)
  -- a type without a fault, behind types that are fine
  pub presentations : (done : List Mentioned) (name : List ℕ) (body : WrittenTypeBody) (p : Presentation) → AreFine done
      → IsPresentation done name body p → IsFine p
  -- the data of all types
  pub flattened : (types : List DeclaredType) (data_ : Data) → IsFlattening types data_ → IsWellFormedData data_
