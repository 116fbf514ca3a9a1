-- Laws of data that are written flatly: their text comes to the same data, and no fault of types is caused.
use Rattle.std.specs.Prelude.{◌≡◌, ◌+◌, ◌*◌, ◌^◌, ◌<◌, ◌≤◌, ℕ, suc, List, ◌++◌, length}
use Rattle.lotos_base.specs.Signature.{Operation, IsOperation, infix_form}
use Rattle.lotos_base.specs.Equation.{Equation, Data, IsEquation, IsWellFormedData}
use Rattle.rewriting_theory.specs.Numbering.{variable_numbers, IsByAppearance}
use Rattle.syntax_trees.specs.WrittenItem.{WrittenItem}
use Rattle.type_definitions.specs.DeclaredTypes.{DeclaredType, types_of, mention_graph}
use Rattle.type_definitions.specs.MentionFaults.{MentionFault, IsMentionFault, AreDeclaredOnce, AreAllKnown}
use Rattle.type_definitions.specs.TypeGraph.{IsAcyclic}
use Rattle.type_definitions.specs.TypeFault.{TypeFault}
use Rattle.type_definitions.specs.Presentation.{presentation_limit}
use Rattle.type_definitions.specs.Flattened.{IsFlattening, IsFlatteningFault}
use Rattle.session_laws.specs.TextNames.{HasTextNames}
use Rattle.session_laws.specs.Meanings.{AreInRow}
use Rattle.session_laws.specs.SameSpelling.{AreDataSpelledAlike}
use Rattle.session_laws.specs.WrittenData.{AreDataWritten, StandApart, equations_of_items}

-- ---- What is asked of data, as it is with those that texts have

-- The variables of the equation have the numbers of their positions, and in the sides they are numbered by first appearance.
pub record IsNumberedEquation (equation : Equation) : Type 0 where
  pub declared : AreInRow 0 equation.variables
  pub appearing : IsByAppearance (variable_numbers equation.left ++ variable_numbers equation.right)

-- In no equation there are so many variables that their names would need numbers of 2^64 or more.
abbrev pub HasFewVariables : Data → Type 0
HasFewVariables data_ = (equation : Equation) → IsEquation data_ equation
    → 1 + length equation.variables * suc (length data_.signature.operations) < 2 ^ 64

-- There are no more sorts, operations and equations than a type may have, and few variables.
pub record AreDataWithinLimits (data_ : Data) : Type 0 where
  pub sorts : length data_.signature.sorts ≤ presentation_limit
  pub operations : length data_.signature.operations ≤ presentation_limit
  pub equations : length data_.equations ≤ presentation_limit
  pub variables : HasFewVariables data_

pub record AreDataOfText (data_ : Data) : Type 0 where
  pub well_formed : IsWellFormedData data_
  pub infix_operations : (f : ℕ) (o : Operation) → IsOperation data_.signature f o → o.form ≡ infix_form → length o.arguments ≡ 2
  pub equations : (equation : Equation) → IsEquation data_ equation → IsNumberedEquation equation
  pub limits : AreDataWithinLimits data_

-- ---- What types come to

-- The types have no fault, and their data are the same as these, spelled alike.
pub record AreTypesOf (data_ : Data) (types : List DeclaredType) : Type 0 where
  pub declared_once : AreDeclaredOnce types
  pub all_known : AreAllKnown types
  pub acyclic : IsAcyclic (mention_graph types)
  pub there : (other : Data) × IsFlattening types other × AreDataSpelledAlike data_ other
  pub only : (other : Data) → IsFlattening types other → AreDataSpelledAlike data_ other
  pub no_name_fault : (fault : MentionFault) → IsMentionFault types fault → ⊥
  pub no_fault : (fault : TypeFault) → IsFlatteningFault types fault → ⊥

-- Items that data are written as have the same data.
abbrev pub FlatDataAreReadBack : Type 0
FlatDataAreReadBack = (data_ : Data) (items : List WrittenItem)
    → AreDataOfText data_
    → AreDataWritten data_ items
    → StandApart (equations_of_items items)
    → AreTypesOf data_ (types_of items)

-- The data that types have are so: their equations have their variables numbered by first appearance, whatever they were renamed,
-- actualised or joined from.
abbrev pub FlattenedEquationsAreNumbered : Type 0
FlattenedEquationsAreNumbered = (types : List DeclaredType) (data_ : Data)
    → IsFlattening types data_
    → (equation : Equation) → IsEquation data_ equation
    → IsNumberedEquation equation

-- So flattened data are what the law asks, if they have names of text form, as the data of a text have, and few variables.
abbrev pub FlattenedDataAreOfText : Type 0
FlattenedDataAreOfText = (types : List DeclaredType) (data_ : Data)
    → IsFlattening types data_
    → HasTextNames data_.signature
    → HasFewVariables data_
    → AreDataOfText data_
