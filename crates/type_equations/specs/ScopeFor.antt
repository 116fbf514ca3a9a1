-- The scope of the equations of a group, as the code keeps it.
use Rattle.std.specs.Prelude.{◌≡◌, ◌∷◌, ℕ, List, map}
use Rattle.syntax_trees.specs.WrittenEquation.{WrittenGroup}
use Rattle.syntax_trees.specs.WrittenVariable.{WrittenVariable}
use Rattle.sort_terms.specs.EquationView.{variable_of}
use Rattle.sort_terms.specs.Reading.{IsScopeOver}
use Rattle.sort_terms.specs.ScopeView.{variables_in}
use Rattle.type_definitions.specs.Presentation.{Presentation}
use Rattle.type_definitions.specs.Declarations.{sort_numbered}
use Rattle.type_definitions.specs.DeclaredEquations.{EquationQuestion, sort_asked, asked_of_variables, scope_from}
use Rattle.type_equations.specs.declared.equation_scope.EquationScope.{EquationScope}

-- It has these variables, and the sides have the sort of this name.
pub record IsScopeFor (p : Presentation) (variables : List WrittenVariable) (sort : List ℕ) (scope : EquationScope) : Type 0 where
  pub variables_are : map variable_of scope.variables.now ≡ scope_from p 0 variables
  pub scope_is : variables_in scope.scope.now ≡ scope_from p 0 variables
  pub over : IsScopeOver p.signature (variables_in scope.scope.now)
  pub sort_is : scope.sort ≡ sort_numbered p sort

-- the sorts that are asked for a group: that of its sides, then those of its variables
abbrev pub sorts_asked : WrittenGroup → List EquationQuestion
sorts_asked group = sort_asked group.place group.sort ∷ asked_of_variables group.variables
