-- Small actualisations: an actual operation of the other form with the equation that speaks of it; two formal sorts that get
-- one actual sort, and what then is one operation or two.
use Rattle.std.specs.Prelude.{◌≡◌, ℕ, List, [], ◌∷◌, None, Some, codes}
use Rattle.lotos_base.specs.Equation.{Equation}
use Rattle.lotos_base.specs.Signature.{Operation, infix_form}
use Rattle.lotos_base.specs.Term.{variable, node, no_terms, term_then}
use Rattle.syntax_trees.specs.WrittenItem.{WrittenPair, WrittenPairs}
use Rattle.type_definitions.specs.TypeFault.{double_operation, missing_actual}
use Rattle.type_definitions.specs.Presentation.{Presentation}
use Rattle.type_definitions.specs.Union.{Mentioned}
use Rattle.type_definitions.specs.Actualisation.{actualisation}
use Rattle.type_definitions.specs.ActualisationFaults.{actualising_of, actualisation_fault}
use Rattle.type_definitions.specs.UnionExamples.{a_place, a_sort, an_operation, example_presentation, mentioned_at}
use Rattle.type_definitions.specs.RenamingExamples.{example_pair_at}

-- an infix operation
abbrev pub an_infix : List ℕ → List ℕ → ℕ → Operation
an_infix name arguments result =
    record { name = name; form = infix_form; arguments = arguments; result = result; origin = codes "T" }

-- `double(x) = x + x` over operations and a sort with these numbers
abbrev pub double_law : ℕ → ℕ → ℕ → Equation
double_law double plus s = record {
  place = a_place 5;
  variables = record { name = codes "x"; number = 0; sort = s } ∷ [];
  left = node double (term_then (variable 0 s) no_terms);
  right = node plus (term_then (variable 0 s) (term_then (variable 0 s) no_terms));
}

-- a formal sort E with a formal `+`, and double with its equation
abbrev pub doubling : Presentation
doubling = record {
  signature = record {
    sorts = a_sort (codes "E") (codes "T") ∷ [];
    operations = an_infix (codes "+") (0 ∷ 0 ∷ []) 0 ∷ an_operation (codes "double") (0 ∷ []) 0 ∷ [];
  };
  equations = double_law 1 0 0 ∷ [];
  formal_sorts = 0 ∷ [];
  formal_operations = 0 ∷ [];
}

-- a sort N with a constant and add
abbrev pub adding : Presentation
adding =
    example_presentation (a_sort (codes "N") (codes "V") ∷ [])
    (an_operation (codes "0") [] 0 ∷ an_operation (codes "add") (0 ∷ 0 ∷ []) 0 ∷ []) [] []

abbrev pub doubling_mentioned : Mentioned
doubling_mentioned = mentioned_at 1 (codes "Doubling") doubling

abbrev pub adding_mentioned : Mentioned
adding_mentioned = mentioned_at 2 (codes "Adding") adding

-- N for E, and with or without add for +
abbrev pub doubling_pairs : List WrittenPair → WrittenPairs
doubling_pairs pairs = record { sort_pairs = example_pair_at 3 (codes "N") (codes "E") ∷ []; operation_pairs = pairs }

-- two formal sorts E and F; two operations on them with these names
abbrev pub two_formals : List ℕ → List ℕ → Mentioned
two_formals one other =
    mentioned_at 1 (codes "Two")
    (example_presentation (a_sort (codes "E") (codes "T") ∷ a_sort (codes "F") (codes "T") ∷ [])
    (an_operation one (0 ∷ []) 0 ∷ an_operation other (1 ∷ []) 1 ∷ []) [] (0 ∷ 1 ∷ []))

-- N for E and for F
abbrev pub one_actual : List WrittenPair → WrittenPairs
one_actual pairs = record {
  sort_pairs = example_pair_at 3 (codes "N") (codes "E") ∷ example_pair_at 4 (codes "N") (codes "F") ∷ [];
  operation_pairs = pairs;
}

pub record ActualisationExamples : Type 0 where
  -- the prefix operation add for the infix +; double keeps its name and its equation
  pub doubled :
      actualisation
      (actualising_of doubling_mentioned (adding_mentioned ∷ []) (codes "R")
      (doubling_pairs (example_pair_at 4 (codes "add") (codes "+") ∷ [])))
      ≡ example_presentation (a_sort (codes "N") (codes "V") ∷ [])
      (an_operation (codes "0") [] 0 ∷ an_operation (codes "add") (0 ∷ 0 ∷ []) 0 ∷ an_operation (codes "double") (0 ∷ []) 0 ∷ [])
      (double_law 2 1 0 ∷ []) []
  pub fine :
      actualisation_fault doubling_mentioned (adding_mentioned ∷ []) (codes "R")
      (doubling_pairs (example_pair_at 4 (codes "add") (codes "+") ∷ []))
      ≡ None
  -- without a pair there is no +
  pub no_plus :
      actualisation_fault doubling_mentioned (adding_mentioned ∷ []) (codes "R") (doubling_pairs [])
      ≡ Some (missing_actual (a_place 1) (codes "+"))
  -- h on E and h on F become one
  pub one_operation :
      actualisation
      (actualising_of (two_formals (codes "h") (codes "h")) (adding_mentioned ∷ []) (codes "R") (one_actual []))
      ≡ example_presentation (a_sort (codes "N") (codes "V") ∷ [])
      (an_operation (codes "0") [] 0 ∷ an_operation (codes "add") (0 ∷ 0 ∷ []) 0 ∷ an_operation (codes "h") (0 ∷ []) 0 ∷ []) [] []
  pub one_is_fine :
      actualisation_fault (two_formals (codes "h") (codes "h")) (adding_mentioned ∷ []) (codes "R") (one_actual []) ≡ None
  -- but what two pairs name alike stays two, and the second one clashes
  pub two_operations :
      actualisation_fault (two_formals (codes "h") (codes "k")) (adding_mentioned ∷ []) (codes "R")
      (one_actual (example_pair_at 5 (codes "g") (codes "h") ∷ example_pair_at 6 (codes "g") (codes "k") ∷ []))
      ≡ Some (double_operation (a_place 6) (codes "g"))
  -- h is new for k, and the other h has its profile
  pub two_named_h :
      actualisation_fault (two_formals (codes "h") (codes "k")) (adding_mentioned ∷ []) (codes "R")
      (one_actual (example_pair_at 5 (codes "h") (codes "k") ∷ []))
      ≡ Some (double_operation (a_place 5) (codes "h"))
