-- A small renaming and a small actualisation, and what is wrong with some others.
use Rattle.std.specs.Prelude.{◌≡◌, ℕ, List, [], ◌∷◌, None, Some, codes}
use Rattle.syntax_trees.specs.WrittenItem.{WrittenPair, WrittenPairs}
use Rattle.type_definitions.specs.TypeFault.{double_sort, unknown_sort, not_formal, missing_actual}
use Rattle.type_definitions.specs.Presentation.{Presentation}
use Rattle.type_definitions.specs.Union.{Mentioned}
use Rattle.type_definitions.specs.Renaming.{renamed_presentation, renaming_fault}
use Rattle.type_definitions.specs.Actualisation.{actualisation}
use Rattle.type_definitions.specs.ActualisationFaults.{actualising_of, actualisation_fault}
use Rattle.type_definitions.specs.UnionExamples.{a_place, a_sort, an_operation, example_presentation, mentioned_at}

-- `given for replaced`, in the line of the number
abbrev pub example_pair_at : ℕ → List ℕ → List ℕ → WrittenPair
example_pair_at line given replaced =
    record { place = a_place line; given = given; replaced = record { place = a_place 9; name = replaced } }

abbrev pub sort_pairs : List WrittenPair → WrittenPairs
sort_pairs pairs = record { sort_pairs = pairs; operation_pairs = [] }

-- sorts A and B, with a formal B, and k from B to A
abbrev pub base_presentation : Presentation
base_presentation =
    example_presentation (a_sort (codes "A") (codes "T") ∷ a_sort (codes "B") (codes "U") ∷ [])
    (an_operation (codes "k") (1 ∷ []) 0 ∷ []) [] (1 ∷ [])

-- a sort C with its constant c
abbrev pub actual_presentation : Presentation
actual_presentation =
    example_presentation (a_sort (codes "C") (codes "V") ∷ []) (an_operation (codes "c") [] 0 ∷ []) [] []

abbrev pub base_mentioned : Mentioned
base_mentioned = mentioned_at 1 (codes "Base") base_presentation

abbrev pub actual_mentioned : Mentioned
actual_mentioned = mentioned_at 2 (codes "Actual") actual_presentation

pub record RenamingExamples : Type 0 where
  -- N for A: the type R is its origin
  pub renamed :
      renamed_presentation base_presentation (codes "R") (sort_pairs (example_pair_at 3 (codes "N") (codes "a") ∷ []))
      ≡ example_presentation (a_sort (codes "N") (codes "R") ∷ a_sort (codes "B") (codes "U") ∷ [])
      (an_operation (codes "k") (1 ∷ []) 0 ∷ []) [] (1 ∷ [])
  pub fine : renaming_fault base_presentation (codes "R") (sort_pairs (example_pair_at 3 (codes "N") (codes "A") ∷ [])) ≡ None
  -- B for A: the earlier sort alone was renamed
  pub clash :
      renaming_fault base_presentation (codes "R") (sort_pairs (example_pair_at 3 (codes "B") (codes "A") ∷ []))
      ≡ Some (double_sort (a_place 3) (codes "B"))
  -- N for Z stands at Z
  pub unknown :
      renaming_fault base_presentation (codes "R") (sort_pairs (example_pair_at 3 (codes "N") (codes "Z") ∷ []))
      ≡ Some (unknown_sort (a_place 9) (Some (codes "Z")))
  -- C for B: what is formal becomes C, and A comes behind it
  pub actual :
      actualisation
      (actualising_of base_mentioned (actual_mentioned ∷ []) (codes "R")
      (sort_pairs (example_pair_at 3 (codes "C") (codes "B") ∷ [])))
      ≡ example_presentation (a_sort (codes "C") (codes "V") ∷ a_sort (codes "A") (codes "T") ∷ [])
      (an_operation (codes "c") [] 0 ∷ an_operation (codes "k") (0 ∷ []) 1 ∷ []) [] []
  pub all_there :
      actualisation_fault base_mentioned (actual_mentioned ∷ []) (codes "R")
      (sort_pairs (example_pair_at 3 (codes "C") (codes "B") ∷ []))
      ≡ None
  -- without a pair there is no B
  pub none_there :
      actualisation_fault base_mentioned (actual_mentioned ∷ []) (codes "R") (sort_pairs [])
      ≡ Some (missing_actual (a_place 1) (codes "B"))
  pub nothing_formal :
      actualisation_fault actual_mentioned (actual_mentioned ∷ []) (codes "R") (sort_pairs [])
      ≡ Some (not_formal (a_place 2) (codes "Actual"))
