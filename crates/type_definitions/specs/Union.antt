-- The union of presentations: each sort, operation and equation once, where it first appears. What brings a clash, or too
-- much, is the mention of the type whose presentation comes in.
use Rattle.std.specs.Prelude.{ℕ, nat_eq, List, map, fold, Option, None, Some, slice_get}
use Rattle.lotos_base.specs.WrittenTerm.{PlacedName}
use Rattle.lotos_base.specs.Equation.{Place, Equation}
use Rattle.lotos_base.specs.Signature.{Sort, Operation}
use Rattle.type_definitions.specs.TypeFault.{TypeFault, double_sort, double_operation, too_large, fault_if, first_fault, fault_along}
use Rattle.type_definitions.specs.Presentation.{Presentation, nothing, is_same_sort, is_same_operation, is_same_equation, with_new, first_position, has_sort_clash, has_operation_clash, is_too_large}
use Rattle.type_definitions.specs.Images.{operation_image, equation_image}

-- where the sort stands in the list
abbrev pub sort_place_in : List Sort → Option Sort → ℕ
sort_place_in sorts None = 0
sort_place_in sorts (Some sort) = first_position (is_same_sort sort) sorts

-- where the operation stands in the list
abbrev pub operation_place_in : List Operation → Option Operation → ℕ
operation_place_in operations None = 0
operation_place_in operations (Some operation) = first_position (is_same_operation operation) operations

-- ---- One presentation joined with another one.

abbrev pub joined_sorts : Presentation → Presentation → List Sort
joined_sorts p q = with_new is_same_sort p.signature.sorts q.signature.sorts

-- the number that a sort of the second one gets
abbrev pub joined_sort : Presentation → Presentation → ℕ → ℕ
joined_sort p q number = sort_place_in (joined_sorts p q) (slice_get q.signature.sorts number)

-- the operations of the second one, over the joined sorts
abbrev pub coming_operations : Presentation → Presentation → List Operation
coming_operations p q = map (operation_image (joined_sort p q)) q.signature.operations

abbrev pub joined_operations : Presentation → Presentation → List Operation
joined_operations p q = with_new is_same_operation p.signature.operations (coming_operations p q)

-- the number that an operation of the second one gets
abbrev pub joined_operation : Presentation → Presentation → ℕ → ℕ
joined_operation p q number = operation_place_in (joined_operations p q) (slice_get (coming_operations p q) number)

abbrev pub joined_equations : Presentation → Presentation → List Equation
joined_equations p q =
    with_new is_same_equation p.equations (map (equation_image (joined_sort p q) (joined_operation p q)) q.equations)

-- the union of the two; the numbers of the first one stay
abbrev pub joined_presentation : Presentation → Presentation → Presentation
joined_presentation p q = record {
  signature = record { sorts = joined_sorts p q; operations = joined_operations p q };
  equations = joined_equations p q;
  formal_sorts = with_new nat_eq p.formal_sorts (map (joined_sort p q) q.formal_sorts);
  formal_operations = with_new nat_eq p.formal_operations (map (joined_operation p q) q.formal_operations);
}

-- what is wrong with a presentation that came about at this place: sorts before operations before the size
abbrev pub presentation_fault : Place → List ℕ → Presentation → Option TypeFault
presentation_fault place name p =
    first_fault (fault_if (has_sort_clash p) (double_sort place name))
    (first_fault (fault_if (has_operation_clash p) (double_operation place name)) (fault_if (is_too_large p) (too_large place name)))

-- ---- The union of what is mentioned, from left to right.

-- a mention of a type, with the presentation of this type
pub record Mentioned : Type 0 where
  pub at : PlacedName
  pub presentation : Presentation

-- what came before, joined with what the mention brings
abbrev pub with_mentioned : Presentation → Mentioned → Presentation
with_mentioned p mention = joined_presentation p mention.presentation

abbrev pub union_of : List Mentioned → Presentation
union_of mentioned = fold with_mentioned nothing mentioned

-- what is wrong once the mention has brought its presentation
abbrev pub mention_fault : Presentation → Mentioned → Option TypeFault
mention_fault p mention = presentation_fault mention.at.place mention.at.name (with_mentioned p mention)

-- the first fault
abbrev pub union_fault : List Mentioned → Option TypeFault
union_fault mentioned = fault_along mention_fault with_mentioned nothing mentioned
