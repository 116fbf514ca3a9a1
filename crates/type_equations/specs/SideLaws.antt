-- Laws of the equation of two sides that were read in a scope.
use Rattle.std.specs.Prelude.{◌≡◌, ℕ, List, Some, slice_get}
use Rattle.lotos_base.specs.WrittenTerm.{WrittenTerm}
use Rattle.lotos_base.specs.Signature.{Signature}
use Rattle.lotos_base.specs.Equation.{Place, Variable, IsEquationOver}
use Rattle.lotos_base.specs.Term.{Term}
use Rattle.syntax_trees.specs.WrittenVariable.{WrittenVariable}
use Rattle.sort_terms.specs.Reading.{IsScopeOver, Reads}
use Rattle.type_definitions.specs.Presentation.{Presentation}
use Rattle.type_definitions.specs.DeclaredEquations.{scope_from, equation_of_sides}

-- each variable in scope has its position as its number
abbrev pub AreNumberedByPosition : List Variable → Type 0
AreNumberedByPosition scope = (i : ℕ) (v : Variable) → slice_get scope i ≡ Some v → v.number ≡ i

-- readings of two sides at one sort make a well-formed equation over the signature
abbrev pub SidesMakeAnEquation : Type 0
SidesMakeAnEquation = (signature : Signature) (scope : List Variable) (place : Place) (one other : WrittenTerm) (left right : Term)
    (sort : ℕ)
    → IsScopeOver signature scope → AreNumberedByPosition scope → Reads signature scope one left sort
    → Reads signature scope other right sort → IsEquationOver signature (equation_of_sides place scope left right)

-- the scope of written variables is numbered so
abbrev pub ScopesAreNumbered : Type 0
ScopesAreNumbered = (p : Presentation) (variables : List WrittenVariable) → AreNumberedByPosition (scope_from p 0 variables)
