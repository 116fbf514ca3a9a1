-- What a small type declares, what is wrong with some others, and the variables of an equation.
use Rattle.std.specs.Prelude.{◌≡◌, ℕ, List, [], ◌∷◌, None, Some, codes}
use Rattle.lotos_base.specs.WrittenTerm.{PlacedName}
use Rattle.lotos_base.specs.Signature.{Form, prefix_form, infix_form}
use Rattle.lotos_base.specs.Term.{variable, node, no_terms, term_then}
use Rattle.syntax_trees.specs.WrittenEquation.{WrittenEquations}
use Rattle.syntax_trees.specs.WrittenItem.{WrittenOperation, WrittenSections}
use Rattle.type_definitions.specs.TypeFault.{double_sort, double_operation, unknown_sort, no_reading}
use Rattle.type_definitions.specs.Presentation.{nothing}
use Rattle.type_definitions.specs.Declarations.{with_declarations, declaration_fault}
use Rattle.type_definitions.specs.DeclaredEquations.{equation_of_sides}
use Rattle.type_definitions.specs.UnionExamples.{a_place, a_sort, an_operation, example_presentation}

abbrev pub name_at : ℕ → List ℕ → PlacedName
name_at line name = record { place = a_place line; name = name }

-- an operation with the result N, in the line of the number, with this name, form and arguments
abbrev pub example_operation_at : ℕ → List ℕ → Form → List PlacedName → WrittenOperation
example_operation_at line name form arguments =
    record { place = a_place line; name = name; form = form; arguments = arguments; result = name_at 8 (codes "N") }

abbrev pub no_example_equations : WrittenEquations
no_example_equations = record { variables = []; groups = [] }

-- formal sorts, sorts and operations
abbrev pub example_sections : List PlacedName → List PlacedName → List WrittenOperation → WrittenSections
example_sections formal sorts operations = record {
  formal_sorts = formal;
  formal_operations = [];
  formal_equations = no_example_equations;
  sorts = sorts;
  operations = operations;
  equations = no_example_equations;
}

-- N, with 0 and s
abbrev pub naturals : WrittenSections
naturals =
    example_sections (name_at 1 (codes "E") ∷ []) (name_at 2 (codes "N") ∷ [])
    (example_operation_at 3 (codes "0") prefix_form [] ∷ example_operation_at 4 (codes "s") prefix_form (name_at 4 (codes "n") ∷ []) ∷ [])

pub record DeclarationExamples : Type 0 where
  -- the formal sort comes first, and N is the sort of the number 1
  pub declared :
      with_declarations (codes "T") nothing naturals
      ≡ example_presentation (a_sort (codes "E") (codes "T") ∷ a_sort (codes "N") (codes "T") ∷ [])
      (an_operation (codes "0") [] 1 ∷ an_operation (codes "s") (1 ∷ []) 1 ∷ []) [] (0 ∷ [])
  pub fine : declaration_fault (codes "T") nothing naturals ≡ None
  -- the second declaration of N
  pub second_sort :
      declaration_fault (codes "T") nothing (example_sections (name_at 1 (codes "N") ∷ []) (name_at 2 (codes "n") ∷ []) [])
      ≡ Some (double_sort (a_place 2) (codes "n"))
  -- one argument is not enough for an infix operation, whatever its sort
  pub one_argument :
      declaration_fault (codes "T") nothing
      (example_sections [] (name_at 2 (codes "N") ∷ [])
      (example_operation_at 3 (codes "+") infix_form (name_at 4 (codes "Z") ∷ []) ∷ []))
      ≡ Some (no_reading (a_place 3))
  pub unknown :
      declaration_fault (codes "T") nothing
      (example_sections [] (name_at 2 (codes "N") ∷ [])
      (example_operation_at 3 (codes "s") prefix_form (name_at 4 (codes "Z") ∷ []) ∷ []))
      ≡ Some (unknown_sort (a_place 4) (Some (codes "Z")))
  -- the second declaration of 0
  pub second_operation :
      declaration_fault (codes "T") nothing
      (example_sections [] (name_at 2 (codes "N") ∷ [])
      (example_operation_at 3 (codes "0") prefix_form [] ∷ example_operation_at 4 (codes "0") prefix_form [] ∷ []))
      ≡ Some (double_operation (a_place 4) (codes "0"))
  -- x, y and z are in scope; in the equation z has the number 0 and x the number 1
  pub numbered :
      equation_of_sides (a_place 5)
      (record { name = codes "x"; number = 0; sort = 1 }
      ∷ record { name = codes "y"; number = 1; sort = 1 }
      ∷ record { name = codes "z"; number = 2; sort = 0 }
      ∷ [])
      (node 3 (term_then (variable 2 0) (term_then (variable 0 1) no_terms))) (variable 0 1)
      ≡ record {
        place = a_place 5;
        variables = record { name = codes "z"; number = 0; sort = 0 } ∷ record { name = codes "x"; number = 1; sort = 1 } ∷ [];
        left = node 3 (term_then (variable 0 0) (term_then (variable 1 1) no_terms));
        right = variable 1 1;
      }
