-- Data types of ACT ONE and mentions of libraries as they are written.
use Rattle.std.specs.Prelude.{ℕ, List}
use Rattle.lotos_base.specs.Equation.{Place}
use Rattle.lotos_base.specs.Signature.{Form}
use Rattle.lotos_base.specs.WrittenTerm.{PlacedName}
use Rattle.syntax_trees.specs.WrittenEquation.{WrittenEquations}

-- an operation at the place of its name: a line that declares several names is as many operations
pub record WrittenOperation : Type 0 where
  pub place : Place
  pub name : List ℕ
  pub form : Form
  pub arguments : List PlacedName
  pub result : PlacedName

-- a pair `given for replaced`, at the place of the given name
pub record WrittenPair : Type 0 where
  pub place : Place
  pub given : List ℕ
  pub replaced : PlacedName

-- the sections of a type, with nothing in those that are left out
pub record WrittenSections : Type 0 where
  pub formal_sorts : List PlacedName
  pub formal_operations : List WrittenOperation
  pub formal_equations : WrittenEquations
  pub sorts : List PlacedName
  pub operations : List WrittenOperation
  pub equations : WrittenEquations

-- the pairs of a renaming or an actualisation
pub record WrittenPairs : Type 0 where
  pub sort_pairs : List WrittenPair
  pub operation_pairs : List WrittenPair

-- what stands behind `is`: imported types and sections; a renaming of the base; or an actualisation of the base by
-- the parts of other types
pub data WrittenTypeBody : Type 0 where
  extends : (imports : List PlacedName) (sections : WrittenSections) → WrittenTypeBody
  renames : (base : PlacedName) (pairs : WrittenPairs) → WrittenTypeBody
  actualises : (base : PlacedName) (actuals : List PlacedName) (pairs : WrittenPairs) → WrittenTypeBody

-- an item: a mention of libraries at its `library`, or a type at its name
pub data WrittenItem : Type 0 where
  libraries : (place : Place) (names : List PlacedName) → WrittenItem
  type_declared : (place : Place) (name : List ℕ) (body : WrittenTypeBody) → WrittenItem
