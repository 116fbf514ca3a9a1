-- Small types with formal equations: a bag of elements that are filled by numbers, two imports that share a formal equation, a
-- renaming, actual types that are formal themselves, and an equation with a premiss.
use Rattle.std.specs.Prelude.{◌≡◌, ℕ, List, [], ◌∷◌, ◌++◌, None, codes}
use Rattle.lotos_base.specs.WrittenTerm.{PlacedName, WrittenTerm}
use Rattle.lotos_base.specs.Equation.{Place, Equation}
use Rattle.lotos_base.specs.Signature.{Sort, Operation, infix_form}
use Rattle.lotos_base.specs.Term.{variable, node, no_terms, term_then}
use Rattle.syntax_trees.specs.WrittenItem.{WrittenPair, WrittenPairs, WrittenTypeBody, extends, renames, actualises}
use Rattle.syntax_trees.specs.WrittenEquation.{WrittenPremiss, WrittenEquation}
use Rattle.type_definitions.specs.Presentation.{Presentation}
use Rattle.type_definitions.specs.Renaming.{renamed_presentation}
use Rattle.type_definitions.specs.Actualisation.{actualisation}
use Rattle.type_definitions.specs.ActualisationFaults.{actualising_of, actualisation_fault}
use Rattle.type_definitions.specs.UnionExamples.{a_sort, mentioned_at}
use Rattle.type_definitions.specs.RenamingExamples.{example_pair_at}
use Rattle.type_definitions.specs.DeclarationExamples.{name_at}
use Rattle.type_definitions.specs.Flattened.{mention_of, mentions_with}
use Rattle.type_definitions.specs.DeclaredEquations.{AskedEquation, formal_asked}
use Rattle.type_definitions.specs.FormalEquations.{FlattenedType, mentioned_in, mentioned_formals, AreOwnFormals, AreFormalsOf}
use Rattle.type_definitions.specs.Requirements.{required_of, requirements_of}

-- the line 3 and the column 40, where the formal equation stands
abbrev pub where_it_stands : Place
where_it_stands = record { text = 0; line = 3; column = 40 }

abbrev pub operation_of_type : List ℕ → List ℕ → List ℕ → ℕ → Operation
operation_of_type origin name arguments result =
    record { name = name; form = infix_form; arguments = arguments; result = result; origin = origin }

-- `x eq x = true` over a sort and operations with these numbers
abbrev pub reflexivity : ℕ → ℕ → ℕ → Equation
reflexivity s eq_ true_ = record {
  place = where_it_stands;
  variables = record { name = codes "x"; number = 0; sort = s } ∷ [];
  left = node eq_ (term_then (variable 0 s) (term_then (variable 0 s) no_terms));
  right = node true_ no_terms;
}

-- these sorts and operations, the first of which are formal
abbrev pub parts : List Sort → List Operation → List ℕ → List ℕ → Presentation
parts sorts operations formal_sorts formal_operations = record {
  signature = record { sorts = sorts; operations = operations };
  equations = [];
  formal_sorts = formal_sorts;
  formal_operations = formal_operations;
}

-- ---- Types

abbrev pub bool_sort_alone : Sort
bool_sort_alone = a_sort (codes "Bool") (codes "Boolean")

abbrev pub true_alone : Operation
true_alone = operation_of_type (codes "Boolean") (codes "true") [] 0

-- Bool, and Nat with 0 and eq
abbrev pub numbers : Presentation
numbers =
    parts (bool_sort_alone ∷ a_sort (codes "Nat") (codes "Numbers") ∷ [])
    (true_alone ∷ operation_of_type (codes "Numbers") (codes "0") [] 1
    ∷ operation_of_type (codes "Numbers") (codes "eq") (1 ∷ 1 ∷ []) 0
    ∷ []) [] []

-- Bool, and a formal Elem with a formal eq
abbrev pub element : Presentation
element =
    parts (bool_sort_alone ∷ a_sort (codes "Elem") (codes "Element") ∷ [])
    (true_alone ∷ operation_of_type (codes "Element") (codes "eq") (1 ∷ 1 ∷ []) 0 ∷ []) (1 ∷ []) (1 ∷ [])

-- the same with Bag and none
abbrev pub bag : Presentation
bag =
    parts (bool_sort_alone ∷ a_sort (codes "Elem") (codes "Element") ∷ a_sort (codes "Bag") (codes "Bag") ∷ [])
    (true_alone ∷ operation_of_type (codes "Element") (codes "eq") (1 ∷ 1 ∷ []) 0
    ∷ operation_of_type (codes "Bag") (codes "none") [] 2
    ∷ []) (1 ∷ []) (1 ∷ [])

-- a type with its formal equations, which requires nothing
abbrev pub flattened_at : ℕ → List ℕ → Presentation → List Equation → FlattenedType
flattened_at line name p formals = record { mentioned = mentioned_at line name p; formals = formals; required = [] }

-- numbers, elements and bags of elements
abbrev pub three_types : List FlattenedType
three_types =
    flattened_at 1 (codes "Numbers") numbers []
    ∷ flattened_at 2 (codes "Element") element (reflexivity 1 1 0 ∷ [])
    ∷ flattened_at 4 (codes "Bag") bag (reflexivity 1 1 0 ∷ [])
    ∷ []

-- a type of this name that actualises bags by the types of these names
abbrev pub filled : List ℕ → List PlacedName → List WrittenPair → Presentation
filled name actuals pairs =
    actualisation
    (actualising_of (mention_of (mentioned_in three_types) (name_at 5 (codes "Bag")))
    (mentions_with (mentioned_in three_types) actuals) name (record { sort_pairs = pairs; operation_pairs = [] }))

abbrev pub filled_by : List PlacedName → List WrittenPair → WrittenTypeBody
filled_by actuals pairs =
    actualises (name_at 5 (codes "Bag")) actuals (record { sort_pairs = pairs; operation_pairs = [] })

-- bags of numbers: Nat for Elem
abbrev pub by_numbers : List PlacedName
by_numbers = name_at 5 (codes "Numbers") ∷ []

abbrev pub nat_for_elem : List WrittenPair
nat_for_elem = example_pair_at 5 (codes "Nat") (codes "Elem") ∷ []

abbrev pub bag_of_numbers : FlattenedType
bag_of_numbers = record {
  mentioned = mentioned_at 5 (codes "NatBag") (filled (codes "NatBag") by_numbers nat_for_elem);
  formals = [];
  required = required_of three_types (codes "NatBag") (filled (codes "NatBag") by_numbers nat_for_elem) (filled_by by_numbers nat_for_elem);
}

-- bags of elements, where an element stands for an element
abbrev pub by_elements : List PlacedName
by_elements = name_at 6 (codes "Element") ∷ []

-- a formal equation with a premiss
abbrev pub premised_equation : WrittenTerm → AskedEquation
premised_equation t = record {
  variables = [];
  sort = codes "Bool";
  equation = record {
    place = where_it_stands;
    premisses = record { place = where_it_stands; left = t; right = None } ∷ [];
    arrow = None;
    left = t;
    right = t;
  };
}

pub record RequirementExamples : Type 0 where
  -- bags of numbers require one equation, at the place of the formal one: eq on Elem is eq on Nat
  pub of_numbers :
      required_of three_types (codes "NatBag") (filled (codes "NatBag") by_numbers nat_for_elem) (filled_by by_numbers nat_for_elem)
      ≡ reflexivity 1 2 0 ∷ []
  pub in_the_data : requirements_of (three_types ++ bag_of_numbers ∷ []) ≡ reflexivity 1 2 0 ∷ []
  -- two actualisations require it twice
  pub each_its_own : requirements_of (three_types ++ bag_of_numbers ∷ bag_of_numbers ∷ []) ≡ reflexivity 1 2 0 ∷ reflexivity 1 2 0 ∷ []
  pub formals_of_numbers : (mentioned_formals three_types by_numbers).formals ≡ []
  -- elements and bags of elements share the formal equation; behind numbers it speaks of Elem by its number there
  pub shared :
      (mentioned_formals three_types
      (name_at 5 (codes "Numbers") ∷ name_at 5 (codes "Bag") ∷ name_at 5 (codes "Element") ∷ [])).formals
      ≡ reflexivity 2 3 0 ∷ []
  -- a renaming has those of its base
  pub of_a_renaming :
      AreFormalsOf three_types
      (renamed_presentation bag (codes "Sack")
      (record { sort_pairs = example_pair_at 5 (codes "Item") (codes "Elem") ∷ []; operation_pairs = [] }))
      (renames (name_at 5 (codes "Bag"))
      (record { sort_pairs = example_pair_at 5 (codes "Item") (codes "Elem") ∷ []; operation_pairs = [] }))
      (reflexivity 1 1 0 ∷ [])
  -- where elements stand for elements, nothing is required yet, and the formal equation is that of the actual type
  pub still_formal :
      required_of three_types (codes "Again") (filled (codes "Again") by_elements []) (filled_by by_elements []) ≡ []
  pub of_the_actual :
      AreFormalsOf three_types (filled (codes "Again") by_elements []) (filled_by by_elements []) (reflexivity 1 1 0 ∷ [])
  -- an equation with a premiss is left out
  pub left_out : (t : WrittenTerm) → AreOwnFormals element (formal_asked (premised_equation t) ∷ []) []
