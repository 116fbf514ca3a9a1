-- The union of two small presentations that share a sort, and the clash of one sort with a second one of its name.
use Rattle.std.specs.Prelude.{◌≡◌, ℕ, List, [], ◌∷◌, None, Some, codes}
use Rattle.lotos_base.specs.Equation.{Place, Equation}
use Rattle.lotos_base.specs.Signature.{Sort, Operation, prefix_form}
use Rattle.lotos_base.specs.Term.{variable, node, no_terms, term_then}
use Rattle.type_definitions.specs.TypeFault.{double_sort}
use Rattle.type_definitions.specs.Presentation.{Presentation}
use Rattle.type_definitions.specs.Union.{Mentioned, union_of, union_fault}

abbrev pub a_place : ℕ → Place
a_place line = record { text = 0; line = line; column = 1 }

abbrev pub a_sort : List ℕ → List ℕ → Sort
a_sort name origin = record { name = name; origin = origin }

abbrev pub an_operation : List ℕ → List ℕ → ℕ → Operation
an_operation name arguments result =
    record { name = name; form = prefix_form; arguments = arguments; result = result; origin = codes "T" }

-- `f(f(x)) = f(x)` over the sort and the operation with these numbers
abbrev pub an_equation : ℕ → ℕ → Equation
an_equation f s = record {
  place = a_place 5;
  variables = record { name = codes "x"; number = 0; sort = s } ∷ [];
  left = node f (term_then (node f (term_then (variable 0 s) no_terms)) no_terms);
  right = node f (term_then (variable 0 s) no_terms);
}

abbrev pub example_presentation : List Sort → List Operation → List Equation → List ℕ → Presentation
example_presentation sorts operations equations formal = record {
  signature = record { sorts = sorts; operations = operations };
  equations = equations;
  formal_sorts = formal;
  formal_operations = [];
}

-- sorts A and B, with a formal B
abbrev pub one_presentation : Presentation
one_presentation =
    example_presentation (a_sort (codes "A") (codes "T") ∷ a_sort (codes "B") (codes "U") ∷ [])
    (an_operation (codes "a") [] 0 ∷ []) [] (1 ∷ [])

-- sorts B and C, with f on B and its equation, and a formal B
abbrev pub other_presentation : Presentation
other_presentation =
    example_presentation (a_sort (codes "b") (codes "u") ∷ a_sort (codes "C") (codes "V") ∷ [])
    (an_operation (codes "f") (0 ∷ []) 0 ∷ an_operation (codes "c") [] 1 ∷ []) (an_equation 0 0 ∷ []) (0 ∷ [])

-- another sort A
abbrev pub clashing_presentation : Presentation
clashing_presentation = example_presentation (a_sort (codes "a") (codes "W") ∷ []) [] [] []

abbrev pub mentioned_at : ℕ → List ℕ → Presentation → Mentioned
mentioned_at line name p = record { at = record { place = a_place line; name = name }; presentation = p }

abbrev pub two_mentioned : List Mentioned
two_mentioned = mentioned_at 1 (codes "One") one_presentation ∷ mentioned_at 2 (codes "Other") other_presentation ∷ []

pub record UnionExamples : Type 0 where
  -- B is there once, as it is spelled first, and what speaks of it has its number
  pub union :
      union_of two_mentioned
      ≡ example_presentation (a_sort (codes "A") (codes "T") ∷ a_sort (codes "B") (codes "U") ∷ a_sort (codes "C") (codes "V") ∷ [])
      (an_operation (codes "a") [] 0 ∷ an_operation (codes "f") (1 ∷ []) 1 ∷ an_operation (codes "c") [] 2 ∷ [])
      (an_equation 1 1 ∷ []) (1 ∷ [])
  pub none : union_fault two_mentioned ≡ None
  -- the second A is the fault of the mention that brings it
  pub clash :
      union_fault (mentioned_at 1 (codes "One") one_presentation ∷ mentioned_at 2 (codes "Clash") clashing_presentation ∷ [])
      ≡ Some (double_sort (a_place 2) (codes "Clash"))
