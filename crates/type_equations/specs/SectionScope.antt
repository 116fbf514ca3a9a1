-- The variables of a section and the equations of its groups, as they are asked and as the code keeps them.
use Rattle.std.specs.Prelude.{◌≡◌, ◌++◌, Bool, List, map}
use Rattle.lotos_base.specs.Signature.{Signature}
use Rattle.syntax_trees.specs.WrittenEquation.{WrittenEquation, WrittenGroup}
use Rattle.syntax_trees.specs.WrittenVariable.{WrittenVariable}
use Rattle.sort_terms.specs.EquationView.{variable_of}
use Rattle.sort_terms.specs.ProfiledTerm.{IsOf}
use Rattle.sort_terms.specs.SortedView.{profiled_in, term_in}
use Rattle.sort_terms.specs.declared.equations.Variable.{Variable}
use Rattle.sort_terms.specs.declared.sorted.Sorted.{Sorted}
use Rattle.type_definitions.specs.Presentation.{Presentation}
use Rattle.type_definitions.specs.DeclaredEquations.{EquationQuestion, AskedEquation, GiveAll, IsSide, asked_of_variables, equation_asked, scope_from}

-- The signature is that of the presentation, and these are the variables of the section over it.
pub record IsSectionFor (p : Presentation) (written : List WrittenVariable) (signature : Signature) (section : List Variable) : Type 0 where
  pub same : p.signature ≡ signature
  pub given : GiveAll p (asked_of_variables written) p
  pub variables_are : map variable_of section ≡ scope_from p 0 written

-- an equation of a group, whose variables come behind those of the section
abbrev pub asked_in : List WrittenVariable → WrittenGroup → WrittenEquation → AskedEquation
asked_in written group e = record { variables = written ++ group.variables; sort = group.sort; equation = e }

-- the same as a question
abbrev pub question_in : Bool → List WrittenVariable → WrittenGroup → WrittenEquation → EquationQuestion
question_in is_formal written group e = equation_asked is_formal (asked_in written group e)

-- These are the readings of the sides of an equation, and terms of the signature.
pub record AreSides (p : Presentation) (asked : AskedEquation) (left right : Sorted) : Type 0 where
  pub left_is : IsSide p asked asked.equation.left (term_in left)
  pub right_is : IsSide p asked asked.equation.right (term_in right)
  pub left_of : IsOf p.signature (profiled_in left)
  pub right_of : IsOf p.signature (profiled_in right)
