-- Flattened types with their formal equations and what they require, as the code keeps them.
use Rattle.std.specs.Prelude.{◌≡◌, ℕ, List, [], ◌∷◌, ◌++◌, Option, None, Some, fold, map, slice_get}
use Rattle.lotos_base.specs.WrittenTerm.{PlacedName}
use Rattle.lotos_base.specs.Equation.{Equation, IsEquationOver}
use Rattle.sort_terms.specs.EquationView.{equation_of}
use Rattle.sort_terms.specs.declared.equations.Equation.{Equation as CodeEquation}
use Rattle.syntax_trees.specs.WrittenItem.{WrittenPairs, WrittenTypeBody}
use Rattle.type_definitions.specs.Actualisation.{Actualising}
use Rattle.type_definitions.specs.ActualisationFaults.{actualising_of}
use Rattle.type_definitions.specs.DeclaredTypes.{DeclaredType}
use Rattle.type_definitions.specs.Flattened.{IsPresentation, mention_of, mentions_with, presentation_named, without_formals}
use Rattle.type_definitions.specs.FormalEquations.{AreFormalsOf, FlattenedType, WithFormals, formals_named, mentioned_in, no_formals}
use Rattle.type_definitions.specs.Presentation.{Presentation as PlainPresentation}
use Rattle.type_definitions.specs.Requirements.{HaveFormals, flattened_with, informal_types, requirements_of, with_required}
use Rattle.type_definitions.specs.Union.{union_fault, union_of}
use Rattle.type_presentations.specs.EquationListView.{HasEquationKeys, HasSidesOver, equations_in}
use Rattle.type_presentations.specs.NamesView.{HasNames}
use Rattle.type_presentations.specs.declared.equation_list.EquationList.{EquationList}
use Rattle.type_presentations.specs.PresentedView.{AreSoundTypes, presented_in}
use Rattle.type_actualisation.specs.FormalLists.{AreFormalsOver, IsUnionWith}
use Rattle.type_actualisation.specs.declared.formal_lists.FormalUnion.{FormalUnion}
use Rattle.type_actualisation.specs.declared.formal_types.FormalTypes.{FormalTypes}

-- ---- The types.

-- The list has the formal equations of the type, over its presentation.
abbrev pub AreFormalsOfType : FlattenedType → EquationList → Type 0
AreFormalsOfType t list = (equations_in list ≡ t.formals) × AreFormalsOver t.mentioned.presentation.signature list

-- Each list has those of the type at its position.
abbrev pub AreAllFormals : List FlattenedType → List EquationList → Type 0
AreAllFormals [] [] = Unit {0}
AreAllFormals [] (l ∷ ls) = ⊥
AreAllFormals (t ∷ ts) [] = ⊥
AreAllFormals (t ∷ ts) (l ∷ ls) = AreFormalsOfType t l × AreAllFormals ts ls

-- The code has these types, with their formal equations.
pub record AreFormalTypes (all : List FlattenedType) (types : FormalTypes) : Type 0 where
  pub types_are : presented_in types.types ≡ mentioned_in all
  pub sound : AreSoundTypes types.types
  pub names : HasNames types.names (map (λ (t : FlattenedType). t.mentioned.at.name) all)
  pub formals : AreAllFormals all types.formals.items
  pub none_there : equations_in types.none ≡ []
  pub none_keyed : HasEquationKeys types.none

-- the list at a position, or another one where there is none
abbrev pub list_at : EquationList → Option EquationList → EquationList
list_at none None = none
list_at none (Some list) = list

-- The list has the formal equations of the type of this name.
abbrev pub IsListNamed : List FlattenedType → List ℕ → EquationList → Type 0
IsListNamed all name list =
    (equations_in list ≡ formals_named all name) × AreFormalsOver (presentation_named (mentioned_in all) name).signature list

-- ---- One type.

-- The list has the formal equations of a type with this presentation and body.
pub record HasFormals (all : List FlattenedType) (p : PlainPresentation) (body : WrittenTypeBody) (list : EquationList) : Type 0 where
  pub are : AreFormalsOf all p body (equations_in list)
  pub over : AreFormalsOver p.signature list

-- an actualisation behind the types
abbrev pub actualising_in : List FlattenedType → PlacedName → List PlacedName → List ℕ → WrittenPairs → Actualising
actualising_in all base actuals name pairs =
    actualising_of (mention_of (mentioned_in all) base) (mentions_with (mentioned_in all) actuals) name pairs

-- the same, where the actual types have this union
abbrev pub actualising_over : List FlattenedType → PlacedName → PlainPresentation → List ℕ → WrittenPairs → Actualising
actualising_over all base actual name pairs =
    record { base = mention_of (mentioned_in all) base; actual = actual; pairs = pairs; type_name = name }

-- The list has these equations, over the signature.
abbrev pub HasOver : List Equation → PlainPresentation → EquationList → Type 0
HasOver equations p list = (equations_in list ≡ equations) × AreFormalsOver p.signature list

-- ---- All types.

-- the union of the types in which nothing is formal, with what they require
abbrev pub required_union : List FlattenedType → WithFormals
required_union all = fold with_required no_formals (informal_types all)

-- The list has the formal equations of one more type with this presentation, and the union what it requires.
pub record HasFormalsNext (all : List FlattenedType) (t : DeclaredType) (p : PlainPresentation) (list : EquationList)
    (required : FormalUnion) : Type 0 where
  pub has : HasFormals all p t.body list
  pub required_are : IsUnionWith (required_union (all ++ flattened_with all t p (equations_in list) ∷ [])) required

-- One more type has its presentation, its formal equations and what it requires.
pub record IsFlattenedNext (all : List FlattenedType) (t : DeclaredType) (types : FormalTypes) (required : FormalUnion) : Type 0 where
  pub presentation : PlainPresentation
  pub formals : List Equation
  pub presented : IsPresentation (mentioned_in all) t.name t.body presentation
  pub are : AreFormalsOf all presentation t.body formals
  pub types_are : AreFormalTypes (all ++ flattened_with all t presentation formals ∷ []) types
  pub required_are : IsUnionWith (required_union (all ++ flattened_with all t presentation formals ∷ [])) required

-- The types have their formal equations behind those that had them before, and this is what all require.
pub record AreFlattenedBehind (done : List FlattenedType) (texts : List DeclaredType) (types : FormalTypes) (required : FormalUnion)
    : Type 0 where
  pub all : List FlattenedType
  pub have : HaveFormals done texts all
  pub types_are : AreFormalTypes all types
  pub required_are : IsUnionWith (required_union all) required

-- These are the requirements of the types, in their order, over the union of those in which nothing is formal.
pub record AreRequiredInOrder (texts : List DeclaredType) (equations : List CodeEquation) : Type 0 where
  pub all : List FlattenedType
  pub have : HaveFormals [] texts all
  pub united : union_fault (without_formals (mentioned_in all)) ≡ None
  pub are : requirements_of all ≡ map equation_of equations
  pub over : (i : ℕ) (e : CodeEquation) → slice_get equations i ≡ Some e
      → IsEquationOver (union_of (without_formals (mentioned_in all))).signature (equation_of e)
      × HasSidesOver (union_of (without_formals (mentioned_in all))).signature e
