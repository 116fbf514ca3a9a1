-- The numbers of the actual sorts and operations, by the numbers of the formal ones in the base.
use Rattle.std.specs.Prelude.{◌≡◌, ℕ, suc, Bool, true, false, not, ◌||◌, List, [], ◌∷◌, map, Option, None, Some, if◌then◌else◌}
use Rattle.lotos_base.specs.WrittenTerm.{PlacedName}
use Rattle.lotos_base.specs.Signature.{Sort, Operation, Form}
use Rattle.syntax_trees.specs.WrittenItem.{WrittenPair, WrittenPairs}
use Rattle.sort_terms.specs.ReadingOutcome.{is_sort_name}
use Rattle.type_definitions.specs.TypeFault.{TypeFault, fault_if}
use Rattle.type_definitions.specs.Presentation.{Presentation, is_marked_number}
use Rattle.type_definitions.specs.Renaming.{pair_for}
use Rattle.type_definitions.specs.Actualisation.{Actualising, actual_name, actual_sort, actual_operation, formal_sorts_of, formal_operations_of, has_actual, other_form}
use Rattle.type_definitions.specs.ActualisationFaults.{missing, no_actual_sort, formal_sort_fault, formal_operation_fault}

-- what is put together, from its parts: the mention of the base, the base, the actual types, the type's name, the pairs
abbrev pub actualising_with : PlacedName → Presentation → Presentation → List ℕ → WrittenPairs → Actualising
actualising_with at base actual type_name pairs =
    record { base = record { at = at; presentation = base }; actual = actual; pairs = pairs; type_name = type_name }

-- for each member the number of its actual one, or none where it is not marked; the first one has this number
abbrev pub actuals_from : {A : Type 0} → List ℕ → (A → ℕ) → ℕ → List A → List (Option ℕ)
actuals_from marks actual number [] = []
actuals_from marks actual number (x ∷ xs) =
    (if is_marked_number marks number then Some (actual x) else None) ∷ actuals_from marks actual (suc number) xs

-- a formal sort without an actual one
abbrev pub sort_lacks_actual : Actualising → Sort → Option TypeFault
sort_lacks_actual a s =
    fault_if (not (is_sort_name a.actual.signature (actual_name s.name (pair_for a.pairs.sort_pairs s.name))))
    (no_actual_sort a s.name (pair_for a.pairs.sort_pairs s.name))

-- whether the actual types have an actual operation in one of the forms
abbrev pub has_actual_in_some_form : Actualising → Operation → Bool
has_actual_in_some_form a o = has_actual a o o.form || has_actual a o (other_form o.form)

-- a formal operation without an actual one
abbrev pub operation_lacks_actual : Actualising → Operation → Option TypeFault
operation_lacks_actual a o = fault_if (not (has_actual_in_some_form a o)) (missing a o.name)

-- none for a member that is not marked, and for a marked one without a fault the number of its actual one
abbrev pub IsActualOf : Bool → Option TypeFault → ℕ → Option ℕ → Type 0
IsActualOf is_formal fault actual None = is_formal ≡ false
IsActualOf is_formal fault actual (Some number) = (is_formal ≡ true) × (fault ≡ None) × (number ≡ actual)

-- the member is formal and has this fault
abbrev pub LacksActual : Bool → Option TypeFault → TypeFault → Type 0
LacksActual is_formal fault found = (is_formal ≡ true) × (fault ≡ Some found)

-- Each formal sort has its actual one, and these are their numbers.
pub record AreActualSorts (a : Actualising) (numbers : List (Option ℕ)) : Type 0 where
  pub none : formal_sort_fault a (formal_sorts_of a.base.presentation) ≡ None
  pub are : numbers ≡ actuals_from a.base.presentation.formal_sorts (actual_sort a) 0 a.base.presentation.signature.sorts

-- Each formal operation has its actual one, and these are their numbers.
pub record AreActualOperations (a : Actualising) (numbers : List (Option ℕ)) : Type 0 where
  pub none : formal_operation_fault a (formal_operations_of a.base.presentation) ≡ None
  pub are : numbers
      ≡ actuals_from a.base.presentation.formal_operations (actual_operation a) 0 a.base.presentation.signature.operations

-- the operation that is looked for in a form: the formal one under the actual name, over these sorts
abbrev pub sought_operation : (ℕ → ℕ) → List WrittenPair → Form → Operation → Operation
sought_operation to_sort pairs form o = record {
  name = actual_name o.name (pair_for pairs o.name);
  form = form;
  arguments = map to_sort o.arguments;
  result = to_sort o.result;
  origin = o.origin;
}
