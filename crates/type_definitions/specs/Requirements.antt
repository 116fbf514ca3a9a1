-- What a list of types requires: for each actualisation in which nothing is formal, what the formal equations of its base come
-- to. They are no equations of the data, and whether they hold there is not asked.
use Rattle.std.specs.Prelude.{◌≡◌, ℕ, List, [], ◌∷◌, ◌++◌, map, fold, None, if◌then◌else◌}
use Rattle.lotos_base.specs.Equation.{Equation}
use Rattle.syntax_trees.specs.WrittenItem.{WrittenTypeBody, extends, renames, actualises}
use Rattle.type_definitions.specs.DeclaredTypes.{DeclaredType, mention_graph}
use Rattle.type_definitions.specs.FlatteningOrder.{IsFlatteningOrder}
use Rattle.type_definitions.specs.Presentation.{Presentation}
use Rattle.type_definitions.specs.Images.{equation_image}
use Rattle.type_definitions.specs.Union.{joined_presentation, joined_sort, joined_operation, union_fault}
use Rattle.type_definitions.specs.Actualisation.{Actualising, actualised_sort, actualised_operation, is_formal}
use Rattle.type_definitions.specs.ActualisationFaults.{actualising_of}
use Rattle.type_definitions.specs.Flattened.{IsPresentation, declared_with, mention_of, mentions_with, without_formals, types_at}
use Rattle.type_definitions.specs.FormalEquations.{WithFormals, no_formals, FlattenedType, mentioned_in, formals_named, AreFormalsOf}

-- ---- What one type requires.

-- equations over the base of an actualisation, over the actualisation: each formal sort and operation becomes its actual one
abbrev pub actualised_images : Actualising → List Equation → List Equation
actualised_images a equations = map (equation_image (actualised_sort a) (actualised_operation a)) equations

-- what a type of this name, presentation and body requires, behind the types that are flattened already
abbrev pub required_of : List FlattenedType → List ℕ → Presentation → WrittenTypeBody → List Equation
required_of done name p (extends imports sections) = []
required_of done name p (renames base pairs) = []
required_of done name p (actualises base actuals pairs) =
    if is_formal p then []
    else actualised_images
    (actualising_of (mention_of (mentioned_in done) base) (mentions_with (mentioned_in done) actuals) name pairs)
    (formals_named done base.name)

-- ---- All types, in the order of flattening.

-- a type with its presentation and its formal equations, behind those that are flattened already
abbrev pub flattened_with : List FlattenedType → DeclaredType → Presentation → List Equation → FlattenedType
flattened_with done t p formals =
    record { mentioned = declared_with t p; formals = formals; required = required_of done t.name p t.body }

-- the types have these presentations, formal equations and requirements, behind those that are flattened already
pub data HaveFormals : List FlattenedType → List DeclaredType → List FlattenedType → Type 0 where
  all_have_formals : (done : List FlattenedType) → HaveFormals done [] done
  next_has_formals : (done all : List FlattenedType) (t : DeclaredType) (ts : List DeclaredType) (p : Presentation)
      (formals : List Equation)
      → IsPresentation (mentioned_in done) t.name t.body p → AreFormalsOf done p t.body formals
      → HaveFormals (done ++ flattened_with done t p formals ∷ []) ts all → HaveFormals done (t ∷ ts) all

-- ---- The requirements, over the union of the types in which nothing is formal. What is there keeps its numbers as the union
-- ---- grows, and so do the requirements of earlier types.

-- the types in which nothing is formal
abbrev pub informal_types : List FlattenedType → List FlattenedType
informal_types [] = []
informal_types (t ∷ ts) = if is_formal t.mentioned.presentation then informal_types ts else t ∷ informal_types ts

-- the union with one type more, and the requirements with those of this type
abbrev pub with_required : WithFormals → FlattenedType → WithFormals
with_required p t = record {
  presentation = joined_presentation p.presentation t.mentioned.presentation;
  formals = p.formals
      ++ map
      (equation_image (joined_sort p.presentation t.mentioned.presentation) (joined_operation p.presentation t.mentioned.presentation))
      t.required;
}

-- the requirements of all types
abbrev pub requirements_of : List FlattenedType → List Equation
requirements_of types = (fold with_required no_formals (informal_types types)).formals

-- These are the requirements of the types, whose flattening has no fault.
pub record AreRequirements (types : List DeclaredType) (requirements : List Equation) : Type 0 where
  pub order : List ℕ
  pub ordered : IsFlatteningOrder (mention_graph types) order
  pub all : List FlattenedType
  pub have : HaveFormals [] (types_at types order) all
  pub united : union_fault (without_formals (mentioned_in all)) ≡ None
  pub are : requirements_of all ≡ requirements
