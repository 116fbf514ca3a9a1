-- The presentation of a type: its sorts, operations and equations, and the marks of what is formal. Formal equations are
-- checked where they stand and are no part of it.
use Rattle.std.specs.Prelude.{ℕ, Bool, ◌&&◌, ◌||◌, not, nat_eq, nat_lt, List, [], ◌∷◌, ◌++◌, length, if◌then◌else◌}
use Rattle.std.specs.List.{list_any}
use Rattle.lotos_base.specs.Signature.{Signature, Sort, Operation}
use Rattle.lotos_base.specs.Equation.{Place, Equation}
use Rattle.lotos_base.specs.Tests.{term_eq}
use Rattle.sort_terms.specs.ReadingOutcome.{one_name}
pub use Rattle.type_definitions.specs.FirstPosition.{first_position}
use Rattle.sort_terms.specs.WellFormedTest.{all_differ, are_one_sort, are_one_operation}

-- Sorts and operations have the numbers of their positions. The marks are the numbers of formal sorts and operations.
pub record Presentation : Type 0 where
  pub signature : Signature
  pub equations : List Equation
  pub formal_sorts : List ℕ
  pub formal_operations : List ℕ

-- nothing at all
abbrev pub nothing : Presentation
nothing =
    record { signature = record { sorts = []; operations = [] }; equations = []; formal_sorts = []; formal_operations = [] }

-- ---- What is equal, and so one. A type declares or makes a sort of one name at most once, and likewise an operation of one
-- ---- name, form and profile; so the name and the type that declared it tell whether two are one.

-- whether two sorts are equal
abbrev pub is_same_sort : Sort → Sort → Bool
is_same_sort one other = are_one_sort one other && one_name one.origin other.origin

-- whether two operations over the same sorts are equal
abbrev pub is_same_operation : Operation → Operation → Bool
is_same_operation one other = are_one_operation one other && one_name one.origin other.origin

-- whether two places are one
abbrev pub is_same_place : Place → Place → Bool
is_same_place one other =
    nat_eq one.text other.text && (nat_eq one.line other.line && nat_eq one.column other.column)

-- whether two equations over the same sorts and operations are equal: they stand at one place and have the same sides
abbrev pub is_same_equation : Equation → Equation → Bool
is_same_equation one other =
    is_same_place one.place other.place && (term_eq one.left other.left && term_eq one.right other.right)

-- ---- Lists that keep first appearances.

-- the list, and behind it what is new in the other one, each once, where it first appears
abbrev pub with_new : {A : Type 0} → (A → A → Bool) → List A → List A → List A
with_new same kept [] = kept
with_new same kept (x ∷ xs) = with_new same (if list_any (same x) kept then kept else kept ++ x ∷ []) xs

-- whether the number is marked
abbrev pub is_marked_number : List ℕ → ℕ → Bool
is_marked_number marks number = list_any (nat_eq number) marks

-- ---- What a presentation must not have.

-- whether two different sorts have one name
abbrev pub has_sort_clash : Presentation → Bool
has_sort_clash presentation = not (all_differ are_one_sort presentation.signature.sorts)

-- whether two different operations have one name, form and profile
abbrev pub has_operation_clash : Presentation → Bool
has_operation_clash presentation = not (all_differ are_one_operation presentation.signature.operations)

-- how many sorts, operations or equations a presentation has at most
abbrev pub presentation_limit : ℕ
presentation_limit = 65536

-- whether it has more of these
abbrev pub is_too_large : Presentation → Bool
is_too_large presentation =
    nat_lt presentation_limit (length presentation.signature.sorts)
    || (nat_lt presentation_limit (length presentation.signature.operations)
    || nat_lt presentation_limit (length presentation.equations))
