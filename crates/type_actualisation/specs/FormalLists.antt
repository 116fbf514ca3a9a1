-- Lists of formal equations, and unions with such equations, as the code keeps them.
use Rattle.std.specs.Prelude.{◌≡◌, ◌≤◌, ℕ, List, [], length, ◌++◌}
use Rattle.lotos_base.specs.Equation.{Equation, IsEquationOver}
use Rattle.lotos_base.specs.Signature.{Signature, Sort, Operation}
use Rattle.type_definitions.specs.ImageLaws.{IsSignatureMap}
use Rattle.type_definitions.specs.ProfiledImage.{number_in}
use Rattle.type_definitions.specs.Presentation.{Presentation as PlainPresentation, presentation_limit}
use Rattle.type_definitions.specs.Union.{joined_operation, joined_operations, joined_sort, joined_sorts}
use Rattle.type_definitions.specs.UnionLaws.{IsIn}
use Rattle.type_definitions.specs.DeclaredEquations.{EquationQuestion}
use Rattle.type_definitions.specs.FormalEquations.{AreOwnFormals, WithFormals}
use Rattle.type_presentations.specs.EquationListView.{HasEquationKeys, HaveSidesOf, equations_in}
use Rattle.type_presentations.specs.SortListView.{HasSortKeys, SortList, sorts_in}
use Rattle.type_presentations.specs.OperationListView.{HasOperationKeys, OperationList, operations_in}
use Rattle.type_presentations.specs.PresentationView.{presentation_of}
use Rattle.type_presentations.specs.declared.equation_list.EquationList.{EquationList}
use Rattle.type_presentations.specs.declared.presentations.Presentation.{Presentation}
use Rattle.type_actualisation.specs.declared.bringing.NewNumbers.{NewNumbers}
use Rattle.type_actualisation.specs.declared.formal_lists.FormalUnion.{FormalUnion}

-- ---- Lists.

-- The equations of the list are well formed over this signature, and their terms carry its profiles.
pub record AreFormalsOver (signature : Signature) (list : EquationList) : Type 0 where
  pub keyed : HasEquationKeys list
  pub over : (e : Equation) → IsIn (equations_in list) e → IsEquationOver signature e
  pub sides : HaveSidesOf signature list.equations.items

-- The equations of the list are over the one signature, and these lists of new numbers lead from it to the other one, whose
-- operations are given.
pub record AreMoved (old new : Signature) (coming : EquationList) (sorts ops : List ℕ) (profiles : OperationList) : Type 0 where
  pub maps : IsSignatureMap old new (number_in sorts) (number_in ops)
  pub profiles_are : operations_in profiles ≡ new.operations
  pub formals : AreFormalsOver old coming

-- a presentation of these sorts and operations alone
abbrev pub with_members : List Sort → List Operation → PlainPresentation
with_members sorts operations = record {
  signature = record { sorts = sorts; operations = operations };
  equations = [];
  formal_sorts = [];
  formal_operations = [];
}

-- a presentation of this signature alone
abbrev pub over_signature : Signature → PlainPresentation
over_signature signature = record { signature = signature; equations = []; formal_sorts = []; formal_operations = [] }

-- The list is the old one with the formal equations among what is asked behind it.
abbrev pub AreKeptFormals : PlainPresentation → List EquationQuestion → EquationList → EquationList → Type 0
AreKeptFormals p asked old new = (own : List Equation) × AreOwnFormals p asked own × (equations_in new ≡ equations_in old ++ own)

-- ---- Unions.

-- The sorts and operations of the first presentation are joined with those of the second, and these are their new numbers.
pub record HaveJoined (p q : PlainPresentation) (sorts : SortList) (ops : OperationList) (numbers : NewNumbers) : Type 0 where
  pub sorts_are : sorts_in sorts ≡ joined_sorts p q
  pub operations_are : operations_in ops ≡ joined_operations p q
  pub sort_keys : HasSortKeys sorts
  pub operation_keys : HasOperationKeys ops
  pub few_sorts : length (sorts_in sorts) ≤ presentation_limit
  pub few_operations : length (operations_in ops) ≤ presentation_limit
  pub sorts_go : (n : ℕ) → number_in numbers.sorts.items n ≡ joined_sort p q n
  pub operations_go : (n : ℕ) → number_in numbers.ops.items n ≡ joined_operation p q n

-- a presentation of the code with formal equations
abbrev pub with_list : Presentation → EquationList → WithFormals
with_list p list = record { presentation = presentation_of p; formals = equations_in list }

-- The union has the sorts and operations of this presentation, and these formal equations over them.
pub record IsUnionWith (w : WithFormals) (u : FormalUnion) : Type 0 where
  pub sorts_are : sorts_in u.sorts ≡ w.presentation.signature.sorts
  pub operations_are : operations_in u.ops ≡ w.presentation.signature.operations
  pub sort_keys : HasSortKeys u.sorts
  pub operation_keys : HasOperationKeys u.ops
  pub few_sorts : length (sorts_in u.sorts) ≤ presentation_limit
  pub few_operations : length (operations_in u.ops) ≤ presentation_limit
  pub formals_are : equations_in u.equations ≡ w.formals
  pub formals : AreFormalsOver w.presentation.signature u.equations
