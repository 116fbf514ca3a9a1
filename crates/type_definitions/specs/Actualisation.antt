-- The presentation of a type that actualises another one: the union of the actual types, then the image of what is not formal
-- in the base, where each formal sort and operation becomes its actual one.
use Rattle.std.specs.Prelude.{ℕ, suc, Bool, true, false, ◌&&◌, ◌||◌, nat_lt, List, [], ◌∷◌, length, map, Option, None, Some, slice_get, if◌then◌else◌}
use Rattle.std.specs.List.{list_any}
use Rattle.std.specs.Str.{bytes_eq}
use Rattle.std.specs.Prelude.{nat_eq}
use Rattle.lotos_base.specs.Signature.{Sort, Operation, Form, prefix_form, infix_form}
use Rattle.lotos_base.specs.Equation.{Equation}
use Rattle.lotos_base.specs.Twins.{form_eq}
use Rattle.syntax_trees.specs.WrittenItem.{WrittenPair, WrittenPairs}
use Rattle.sort_terms.specs.ReadingOutcome.{one_name}
use Rattle.type_definitions.specs.Presentation.{Presentation, is_same_sort, is_same_operation, is_same_equation, with_new, first_position, is_marked_number}
use Rattle.type_definitions.specs.Images.{operation_image, equation_image}
use Rattle.type_definitions.specs.Union.{Mentioned, sort_place_in, operation_place_in}
use Rattle.type_definitions.specs.Declarations.{sort_numbered}
use Rattle.type_definitions.specs.Renaming.{pair_for, sort_under, operation_under}

-- What is put together: the base as it is mentioned, the union of the actual types, the pairs, and the type's name.
pub record Actualising : Type 0 where
  pub base : Mentioned
  pub actual : Presentation
  pub pairs : WrittenPairs
  pub type_name : List ℕ

-- ---- What is formal in the base, and what is not.

-- the members whose number is marked, where the first one has this number
abbrev pub marked_from : {A : Type 0} → List ℕ → ℕ → List A → List A
marked_from marks number [] = []
marked_from marks number (x ∷ xs) =
    if is_marked_number marks number then x ∷ marked_from marks (suc number) xs else marked_from marks (suc number) xs

-- the others
abbrev pub unmarked_from : {A : Type 0} → List ℕ → ℕ → List A → List A
unmarked_from marks number [] = []
unmarked_from marks number (x ∷ xs) =
    if is_marked_number marks number then unmarked_from marks (suc number) xs else x ∷ unmarked_from marks (suc number) xs

abbrev pub formal_sorts_of : Presentation → List Sort
formal_sorts_of p = marked_from p.formal_sorts 0 p.signature.sorts

abbrev pub formal_operations_of : Presentation → List Operation
formal_operations_of p = marked_from p.formal_operations 0 p.signature.operations

abbrev pub other_sorts_of : Presentation → List Sort
other_sorts_of p = unmarked_from p.formal_sorts 0 p.signature.sorts

abbrev pub other_operations_of : Presentation → List Operation
other_operations_of p = unmarked_from p.formal_operations 0 p.signature.operations

-- whether a sort or an operation is formal
abbrev pub is_formal : Presentation → Bool
is_formal p = nat_lt 0 (length (formal_sorts_of p)) || nat_lt 0 (length (formal_operations_of p))

-- whether a formal sort has the name
abbrev pub is_formal_sort : Presentation → List ℕ → Bool
is_formal_sort p name = list_any (λ (s : Sort). one_name s.name name) (formal_sorts_of p)

-- whether a formal operation has the name
abbrev pub is_formal_operation : Presentation → List ℕ → Bool
is_formal_operation p name = list_any (λ (o : Operation). one_name o.name name) (formal_operations_of p)

-- ---- Pairs. One with the old name of something formal names the actual one, and renames nothing.

-- the pair, unless the test says that it renames nothing
abbrev pub pair_unless : Bool → Option WrittenPair → Option WrittenPair
pair_unless true pair = None
pair_unless false pair = pair

-- the pair that renames a sort that is not formal
abbrev pub sort_renamer : Actualising → Sort → Option WrittenPair
sort_renamer a sort = pair_unless (is_formal_sort a.base.presentation sort.name) (pair_for a.pairs.sort_pairs sort.name)

-- the pair that renames an operation that is not formal
abbrev pub operation_renamer : Actualising → Operation → Option WrittenPair
operation_renamer a operation =
    pair_unless (is_formal_operation a.base.presentation operation.name) (pair_for a.pairs.operation_pairs operation.name)

-- the name that something formal has among the actual types
abbrev pub actual_name : List ℕ → Option WrittenPair → List ℕ
actual_name name None = name
actual_name name (Some pair) = pair.given

-- ---- Sorts.

-- the image of a sort that is not formal
abbrev pub other_sort_image : Actualising → Sort → Sort
other_sort_image a sort = sort_under a.type_name (sort_renamer a sort) sort

abbrev pub actualised_sorts : Actualising → List Sort
actualised_sorts a =
    with_new is_same_sort a.actual.signature.sorts (map (other_sort_image a) (other_sorts_of a.base.presentation))

-- the number of the actual sort of a formal one
abbrev pub actual_sort : Actualising → Sort → ℕ
actual_sort a sort = sort_numbered a.actual (actual_name sort.name (pair_for a.pairs.sort_pairs sort.name))

-- the number that a sort of the base gets
abbrev pub sort_becomes : Actualising → ℕ → Option Sort → ℕ
sort_becomes a number None = 0
sort_becomes a number (Some sort) =
    if is_marked_number a.base.presentation.formal_sorts number
    then actual_sort a sort
    else sort_place_in (actualised_sorts a) (Some (other_sort_image a sort))

abbrev pub actualised_sort : Actualising → ℕ → ℕ
actualised_sort a number = sort_becomes a number (slice_get a.base.presentation.signature.sorts number)

-- ---- Operations.

-- the image of an operation that is not formal
abbrev pub other_operation_image : Actualising → Operation → Operation
other_operation_image a operation =
    operation_under a.type_name (operation_renamer a operation) (operation_image (actualised_sort a) operation)

abbrev pub actualised_operations : Actualising → List Operation
actualised_operations a =
    with_new is_same_operation a.actual.signature.operations
    (map (other_operation_image a) (other_operations_of a.base.presentation))

-- the other form
abbrev pub other_form : Form → Form
other_form prefix_form = infix_form
other_form infix_form = prefix_form

-- whether an operation is an actual one of a formal one, in this form
abbrev pub is_actual : Actualising → Operation → Form → Operation → Bool
is_actual a formal form operation =
    (one_name operation.name (actual_name formal.name (pair_for a.pairs.operation_pairs formal.name))
    && form_eq operation.form form)
    && (bytes_eq operation.arguments (map (actualised_sort a) formal.arguments)
    && nat_eq operation.result (actualised_sort a formal.result))

-- whether the actual types have one in this form
abbrev pub has_actual : Actualising → Operation → Form → Bool
has_actual a formal form = list_any (is_actual a formal form) a.actual.signature.operations

-- the number of the actual operation of a formal one: one of the same form before one of the other form
abbrev pub actual_operation : Actualising → Operation → ℕ
actual_operation a formal =
    first_position
    (is_actual a formal (if has_actual a formal formal.form then formal.form else other_form formal.form))
    a.actual.signature.operations

-- the number that an operation of the base gets
abbrev pub operation_becomes : Actualising → ℕ → Option Operation → ℕ
operation_becomes a number None = 0
operation_becomes a number (Some operation) =
    if is_marked_number a.base.presentation.formal_operations number
    then actual_operation a operation
    else operation_place_in (actualised_operations a) (Some (other_operation_image a operation))

abbrev pub actualised_operation : Actualising → ℕ → ℕ
actualised_operation a number = operation_becomes a number (slice_get a.base.presentation.signature.operations number)

-- ---- The presentation. Its marks are those of the actual types.

abbrev pub actualised_equations : Actualising → List Equation
actualised_equations a =
    with_new is_same_equation a.actual.equations
    (map (equation_image (actualised_sort a) (actualised_operation a)) a.base.presentation.equations)

abbrev pub actualisation : Actualising → Presentation
actualisation a = record {
  signature = record { sorts = actualised_sorts a; operations = actualised_operations a };
  equations = actualised_equations a;
  formal_sorts = a.actual.formal_sorts;
  formal_operations = a.actual.formal_operations;
}
