-- What data are written as in a flat text: one type that declares the sorts, the operations and the equations in their order, each
-- equation behind an `ofsort` and a `forall` of its own. Places are left open.
use Rattle.std.specs.Prelude.{◌≡◌, ℕ, List, [], ◌∷◌, ◌++◌, flat_map, Some, None, slice_get, codes}
use Rattle.lotos_base.specs.Signature.{Signature, Sort, Operation}
use Rattle.lotos_base.specs.Sorting.{head_sort_of}
use Rattle.lotos_base.specs.Equation.{Variable, Equation, Data}
use Rattle.lotos_base.specs.WrittenTerm.{PlacedName}
use Rattle.syntax_trees.specs.WrittenEquation.{WrittenEquation, WrittenGroup}
use Rattle.syntax_trees.specs.WrittenItem.{WrittenOperation, WrittenSections, WrittenTypeBody, extends, renames, actualises, WrittenItem, libraries, type_declared}
use Rattle.session_laws.specs.WrittenAs.{IsWrittenAs}
use Rattle.session_laws.specs.WrittenBehaviours.{Correspond, IsVariableWritten}
use Rattle.session_laws.specs.WrittenSpecifications.{IsSortWritten}
use Rattle.flat_text.specs.DataText.{sort_if_any}
use Rattle.flat_text.specs.EquationNames.{renamed_variables}

-- ---- Sorts and operations

-- a sort where it is declared
abbrev pub IsSortDeclared : Sort → PlacedName → Type 0
IsSortDeclared sort w = w.name ≡ sort.name

-- an operation with its profile
pub record IsOperationWritten (signature : Signature) (operation : Operation) (w : WrittenOperation) : Type 0 where
  pub named : w.name ≡ operation.name
  pub formed : w.form ≡ operation.form
  pub arguments : Correspond (IsSortWritten signature) operation.arguments w.arguments
  pub result : IsSortWritten signature operation.result w.result

-- ---- Equations

-- an equation without premisses, whose variables have the names of these
pub record IsEquationWritten (signature : Signature) (names : List Variable) (equation : Equation) (w : WrittenEquation) : Type 0 where
  pub premisses : w.premisses ≡ []
  pub arrow : w.arrow ≡ None
  pub left : IsWrittenAs signature names equation.left w.left
  pub right : IsWrittenAs signature names equation.right w.right

-- an equation behind the sort of its sides and its variables, which are named `v1`, `v2` and so on, without the names of operations
pub record IsGroupWritten (signature : Signature) (equation : Equation) (group : WrittenGroup) : Type 0 where
  pub sorted : group.sort ≡ sort_if_any signature (head_sort_of signature equation.left)
  pub variables : Correspond (IsVariableWritten signature) (renamed_variables signature equation) group.variables
  pub one : WrittenEquation
  pub alone : group.equations ≡ one ∷ []
  pub is_written : IsEquationWritten signature (renamed_variables signature equation) equation one

-- ---- Types

-- The sections of the one type: nothing is formal, and all members stand in their order.
pub record AreSectionsWritten (data_ : Data) (sections : WrittenSections) : Type 0 where
  pub formal_sorts : sections.formal_sorts ≡ []
  pub formal_operations : sections.formal_operations ≡ []
  pub formal_variables : sections.formal_equations.variables ≡ []
  pub formal_groups : sections.formal_equations.groups ≡ []
  pub sorts : Correspond IsSortDeclared data_.signature.sorts sections.sorts
  pub operations : Correspond (IsOperationWritten data_.signature) data_.signature.operations sections.operations
  pub common_variables : sections.equations.variables ≡ []
  pub groups : Correspond (IsGroupWritten data_.signature) data_.equations sections.equations.groups

-- a type without imports
abbrev pub IsBodyWritten : Data → WrittenTypeBody → Type 0
IsBodyWritten data_ (extends imports sections) = (imports ≡ []) × AreSectionsWritten data_ sections
IsBodyWritten data_ (renames base pairs) = ⊥
IsBodyWritten data_ (actualises base actuals pairs) = ⊥

-- the items over data with these sorts: none without sorts, and otherwise the one type
abbrev pub AreItemsWritten : Data → List Sort → List WrittenItem → Type 0
AreItemsWritten data_ [] [] = Unit {0}
AreItemsWritten data_ [] (item ∷ items) = ⊥
AreItemsWritten data_ (sort ∷ sorts) [] = ⊥
AreItemsWritten data_ (sort ∷ sorts) (libraries place names ∷ items) = ⊥
AreItemsWritten data_ (sort ∷ sorts) (type_declared place name body ∷ item ∷ items) = ⊥
AreItemsWritten data_ (sort ∷ sorts) (type_declared place name body ∷ []) = (name ≡ codes "Data") × IsBodyWritten data_ body

abbrev pub AreDataWritten : Data → List WrittenItem → Type 0
AreDataWritten data_ items = AreItemsWritten data_ data_.signature.sorts items

-- ---- Where equations stand

-- the equations that a type declares itself
abbrev pub own_equations : WrittenTypeBody → List WrittenEquation
own_equations (extends imports sections) = flat_map (λ (group : WrittenGroup). group.equations) sections.equations.groups
own_equations (renames base pairs) = []
own_equations (actualises base actuals pairs) = []

abbrev pub equations_of_items : List WrittenItem → List WrittenEquation
equations_of_items [] = []
equations_of_items (libraries place names ∷ items) = equations_of_items items
equations_of_items (type_declared place name body ∷ items) = own_equations body ++ equations_of_items items

-- no two equations stand at one place
abbrev pub StandApart : List WrittenEquation → Type 0
StandApart equations = (i j : ℕ) (one other : WrittenEquation) → slice_get equations i ≡ Some one → slice_get equations j ≡ Some other
    → one.place ≡ other.place → i ≡ j
