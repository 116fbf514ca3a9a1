-- The formal equations of types: what a type asks of the types that may stand for what is formal in it. They are no part of a
-- presentation. Those with premisses are left out from the start.
use Rattle.std.specs.Prelude.{◌≡◌, ℕ, Bool, true, false, List, [], ◌∷◌, ◌++◌, map, fold, if◌then◌else◌}
use Rattle.lotos_base.specs.WrittenTerm.{PlacedName}
use Rattle.lotos_base.specs.Equation.{Place, Equation}
use Rattle.lotos_base.specs.Term.{Term}
use Rattle.syntax_trees.specs.WrittenEquation.{WrittenPremiss}
use Rattle.syntax_trees.specs.WrittenItem.{WrittenSections, WrittenTypeBody, extends, renames, actualises}
use Rattle.sort_terms.specs.ReadingOutcome.{one_name}
use Rattle.type_definitions.specs.Presentation.{Presentation, nothing, is_same_equation, with_new}
use Rattle.type_definitions.specs.Images.{equation_image}
use Rattle.type_definitions.specs.Union.{Mentioned, joined_presentation, joined_sort, joined_operation}
use Rattle.type_definitions.specs.DeclaredEquations.{EquationQuestion, sort_asked, formal_asked, AskedEquation, asked_of_section, IsSide, scope_of, equation_of_sides}
use Rattle.type_definitions.specs.Flattened.{presentation_named}

-- A presentation, and formal equations over its signature.
pub record WithFormals : Type 0 where
  pub presentation : Presentation
  pub formals : List Equation

-- nothing at all
abbrev pub no_formals : WithFormals
no_formals = record { presentation = nothing; formals = [] }

-- ---- Unions. Formal equations are joined as equations are: those of the second get the numbers of the union, and equal ones,
-- ---- by place and image, are one.

abbrev pub formals_joined : WithFormals → WithFormals → WithFormals
formals_joined p q = record {
  presentation = joined_presentation p.presentation q.presentation;
  formals = with_new is_same_equation p.formals
      (map (equation_image (joined_sort p.presentation q.presentation) (joined_operation p.presentation q.presentation)) q.formals);
}

-- from left to right
abbrev pub formals_of_union : List WithFormals → WithFormals
formals_of_union all = fold formals_joined no_formals all

-- ---- The formal equations that a type declares itself, over its presentation.

abbrev pub has_premisses : List WrittenPremiss → Bool
has_premisses [] = false
has_premisses (w ∷ ws) = true

-- these are the formal equations without premisses among what is asked, in text order, each read at the sort of its `ofsort`
pub data AreOwnFormals (p : Presentation) : List EquationQuestion → List Equation → Type 0 where
  no_more_formals : AreOwnFormals p [] []
  sort_passed : (place : Place) (name : List ℕ) (asked : List EquationQuestion) (own : List Equation) → AreOwnFormals p asked own
      → AreOwnFormals p (sort_asked place name ∷ asked) own
  premised_passed : (a : AskedEquation) (asked : List EquationQuestion) (own : List Equation)
      → has_premisses a.equation.premisses ≡ true → AreOwnFormals p asked own → AreOwnFormals p (formal_asked a ∷ asked) own
  formal_kept : (a : AskedEquation) (left right : Term) (asked : List EquationQuestion) (own : List Equation)
      → has_premisses a.equation.premisses ≡ false → IsSide p a a.equation.left left → IsSide p a a.equation.right right
      → AreOwnFormals p asked own
      → AreOwnFormals p (formal_asked a ∷ asked) (equation_of_sides a.equation.place (scope_of p a) left right ∷ own)

-- ---- Flattened types.

-- A type at its name with its presentation; its formal equations; and, where nothing is formal in it, what it requires: what the
-- formal equations of its base come to. Both are over its presentation.
pub record FlattenedType : Type 0 where
  pub mentioned : Mentioned
  pub formals : List Equation
  pub required : List Equation

-- the types at their names with their presentations
abbrev pub mentioned_in : List FlattenedType → List Mentioned
mentioned_in types = map (λ (t : FlattenedType). t.mentioned) types

-- the formal equations of the type of a name
abbrev pub formals_named : List FlattenedType → List ℕ → List Equation
formals_named [] name = []
formals_named (t ∷ ts) name = if one_name t.mentioned.at.name name then t.formals else formals_named ts name

-- the type of a name, with its formal equations
abbrev pub with_formals_named : List FlattenedType → PlacedName → WithFormals
with_formals_named done mention =
    record { presentation = presentation_named (mentioned_in done) mention.name; formals = formals_named done mention.name }

-- the union of what is mentioned, with the formal equations
abbrev pub mentioned_formals : List FlattenedType → List PlacedName → WithFormals
mentioned_formals done names = formals_of_union (map (with_formals_named done) names)

-- These are the formal equations of a type with this presentation and body: of an extension those of its imports and then its
-- own, of a renaming those of its base, of an actualisation those of its actual types. In all three the numbers of the union of
-- the imports, of the base, and of the union of the actual types stay.
abbrev pub AreFormalsOf : List FlattenedType → Presentation → WrittenTypeBody → List Equation → Type 0
AreFormalsOf done p (extends imports sections) formals =
    (own : List Equation) × AreOwnFormals p (asked_of_section true sections.formal_equations) own
    × ((mentioned_formals done imports).formals ++ own ≡ formals)
AreFormalsOf done p (renames base pairs) formals = formals_named done base.name ≡ formals
AreFormalsOf done p (actualises base actuals pairs) formals = (mentioned_formals done actuals).formals ≡ formals
