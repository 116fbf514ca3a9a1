-- The sorts and operations that a type declares itself: what they add to a presentation, and their faults.
use Rattle.std.specs.Prelude.{ℕ, Bool, true, false, not, nat_eq, List, [], ◌∷◌, ◌++◌, length, map, fold, Option, None, Some, if◌then◌else◌}
use Rattle.lotos_base.specs.WrittenTerm.{PlacedName}
use Rattle.lotos_base.specs.Signature.{Sort, Form, prefix_form, infix_form}
use Rattle.syntax_trees.specs.WrittenItem.{WrittenOperation, WrittenSections}
use Rattle.sort_terms.specs.ReadingOutcome.{one_name, is_sort_name}
use Rattle.type_definitions.specs.TypeFault.{TypeFault, unknown_sort, no_reading, fault_if, first_fault, fault_along}
use Rattle.type_definitions.specs.Presentation.{Presentation, first_position}
use Rattle.type_definitions.specs.Union.{presentation_fault}

-- the number of the sort of this name
abbrev pub sort_numbered : Presentation → List ℕ → ℕ
sort_numbered p name = first_position (λ (s : Sort). one_name s.name name) p.signature.sorts

-- the marks, with this number where what got it is formal
abbrev pub marked_if : Bool → List ℕ → ℕ → List ℕ
marked_if is_formal marks number = if is_formal then marks ++ number ∷ [] else marks

-- ---- Sorts. The origin is the name of the type.

abbrev pub with_sort : List ℕ → Bool → Presentation → PlacedName → Presentation
with_sort origin is_formal p declared = record {
  signature = record {
    sorts = p.signature.sorts ++ record { name = declared.name; origin = origin } ∷ [];
    operations = p.signature.operations;
  };
  equations = p.equations;
  formal_sorts = marked_if is_formal p.formal_sorts (length p.signature.sorts);
  formal_operations = p.formal_operations;
}

-- a second sort of a name, or one too many
abbrev pub sort_fault : List ℕ → Bool → Presentation → PlacedName → Option TypeFault
sort_fault origin is_formal p declared =
    presentation_fault declared.place declared.name (with_sort origin is_formal p declared)

-- ---- Operations.

abbrev pub with_operation : List ℕ → Bool → Presentation → WrittenOperation → Presentation
with_operation origin is_formal p declared = record {
  signature = record {
    sorts = p.signature.sorts;
    operations = p.signature.operations
        ++ record {
          name = declared.name;
          form = declared.form;
          arguments = map (λ (s : PlacedName). sort_numbered p s.name) declared.arguments;
          result = sort_numbered p declared.result.name;
          origin = origin;
        }
        ∷ [];
  };
  equations = p.equations;
  formal_sorts = p.formal_sorts;
  formal_operations = marked_if is_formal p.formal_operations (length p.signature.operations);
}

-- whether so many arguments fit the form: two where the name stands between them
abbrev pub fits_form : Form → ℕ → Bool
fits_form prefix_form count = true
fits_form infix_form count = nat_eq count 2

-- the first of the names that is that of no sort
abbrev pub unknown_sort_among : Presentation → List PlacedName → Option TypeFault
unknown_sort_among p [] = None
unknown_sort_among p (s ∷ ss) =
    first_fault (fault_if (not (is_sort_name p.signature s.name)) (unknown_sort s.place (Some s.name))) (unknown_sort_among p ss)

-- arguments that do not fit the form, then a sort that is none, then a second operation of a name, form and profile, or one
-- too many
abbrev pub operation_fault : List ℕ → Bool → Presentation → WrittenOperation → Option TypeFault
operation_fault origin is_formal p declared =
    first_fault (fault_if (not (fits_form declared.form (length declared.arguments))) (no_reading declared.place))
    (first_fault (unknown_sort_among p (declared.arguments ++ declared.result ∷ []))
    (presentation_fault declared.place declared.name (with_operation origin is_formal p declared)))

-- ---- All of them: formal sorts, own sorts, formal operations, own operations, each in text order.

abbrev pub with_formal_sorts : List ℕ → Presentation → WrittenSections → Presentation
with_formal_sorts origin p sections = fold (with_sort origin true) p sections.formal_sorts

abbrev pub with_sorts : List ℕ → Presentation → WrittenSections → Presentation
with_sorts origin p sections = fold (with_sort origin false) (with_formal_sorts origin p sections) sections.sorts

abbrev pub with_formal_operations : List ℕ → Presentation → WrittenSections → Presentation
with_formal_operations origin p sections =
    fold (with_operation origin true) (with_sorts origin p sections) sections.formal_operations

abbrev pub with_declarations : List ℕ → Presentation → WrittenSections → Presentation
with_declarations origin p sections =
    fold (with_operation origin false) (with_formal_operations origin p sections) sections.operations

-- the first fault of them
abbrev pub declaration_fault : List ℕ → Presentation → WrittenSections → Option TypeFault
declaration_fault origin p sections =
    first_fault (fault_along (sort_fault origin true) (with_sort origin true) p sections.formal_sorts)
    (first_fault
    (fault_along (sort_fault origin false) (with_sort origin false) (with_formal_sorts origin p sections) sections.sorts)
    (first_fault
    (fault_along (operation_fault origin true) (with_operation origin true) (with_sorts origin p sections)
    sections.formal_operations)
    (fault_along (operation_fault origin false) (with_operation origin false) (with_formal_operations origin p sections)
    sections.operations)))
