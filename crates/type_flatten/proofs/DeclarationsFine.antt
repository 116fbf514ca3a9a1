-- Sorts and operations that a type declares without a fault.
use Rattle.std.proofs.Common.{◌≡◌, ℕ, Bool, true, false, List, ◌++◌, ◌∷◌, [], length, refl}
use Rattle.std.specs.Prelude.{None, not, fold}
use Rattle.lotos_base.specs.WrittenTerm.{PlacedName}
use Rattle.lotos_base.specs.Signature.{Sort}
use Rattle.syntax_trees.specs.WrittenItem.{WrittenOperation, WrittenSections}
use Rattle.type_definitions.specs.TypeFault.{no_reading, fault_if, first_fault, fault_along}
use Rattle.type_definitions.specs.Presentation.{Presentation}
use Rattle.type_definitions.specs.Union.{presentation_fault}
use Rattle.type_definitions.specs.Declarations.{with_sort, sort_fault, with_operation, operation_fault, fits_form, unknown_sort_among, with_formal_sorts, with_sorts, with_formal_operations, with_declarations, declaration_fault}
use Rattle.type_definitions.proofs.FaultLemmas.{none_first}
use Rattle.type_presentations.proofs.GrowthLemmas.{data_in_larger, larger_by_sort, larger_by_operation, well_formed_with_sort}
use Rattle.type_presentations.proofs.GrowthLemmas.{well_formed_with_operation}
use Rattle.type_presentations.proofs.DeclareLemmas.{sorts_are_known}
use Rattle.type_presentations.specs.DeclaredOperation.{declared_operation}
use Rattle.type_flatten.specs.FlattenedData.{IsFine}
use Rattle.type_flatten.proofs.UnionsFine.{nothing_clashes, all_along}

abbrev declared_sort : List ℕ → PlacedName → Sort
declared_sort origin declared = record { name = declared.name; origin = origin }

sort_fine : (origin : List ℕ) (is_formal : Bool) (p : Presentation) (declared : PlacedName) → IsFine p
    → sort_fault origin is_formal p declared ≡ None → IsFine (with_sort origin is_formal p declared)
sort_fine origin is_formal p declared fine none =
    let apart = nothing_clashes declared.place declared.name (with_sort origin is_formal p declared) none in
    data_in_larger p.signature (with_sort origin is_formal p declared).signature p.equations
    (larger_by_sort p.signature (declared_sort origin declared))
    (well_formed_with_sort p.signature (declared_sort origin declared) fine.signature apart.0) fine

operation_fine : (origin : List ℕ) (is_formal : Bool) (p : Presentation) (declared : WrittenOperation) → IsFine p
    → operation_fault origin is_formal p declared ≡ None → IsFine (with_operation origin is_formal p declared)
operation_fine origin is_formal p declared fine none =
    let made = with_operation origin is_formal p declared in
    let wrong = presentation_fault declared.place declared.name made in
    let missing = unknown_sort_among p (declared.arguments ++ declared.result ∷ []) in
    let parts = none_first (fault_if (not (fits_form declared.form (length declared.arguments))) (no_reading declared.place))
    (first_fault missing wrong) none in
    let later = none_first missing wrong parts.1 in
    let apart = nothing_clashes declared.place declared.name made later.1 in
    data_in_larger p.signature made.signature p.equations (larger_by_operation p.signature (declared_operation origin p declared))
    (well_formed_with_operation p.signature (declared_operation origin p declared) fine.signature
    (sorts_are_known origin p declared (declared_operation origin p declared) later.0 refl) apart.1)
    fine

sorts_fine : (origin : List ℕ) (is_formal : Bool) (p : Presentation) (ds : List PlacedName) → IsFine p
    → fault_along (sort_fault origin is_formal) (with_sort origin is_formal) p ds ≡ None
    → IsFine (fold (with_sort origin is_formal) p ds)
sorts_fine origin is_formal p ds fine none =
    all_along (sort_fault origin is_formal) (with_sort origin is_formal) (sort_fine origin is_formal) p ds fine none

operations_fine : (origin : List ℕ) (is_formal : Bool) (p : Presentation) (ds : List WrittenOperation) → IsFine p
    → fault_along (operation_fault origin is_formal) (with_operation origin is_formal) p ds ≡ None
    → IsFine (fold (with_operation origin is_formal) p ds)
operations_fine origin is_formal p ds fine none =
    all_along (operation_fault origin is_formal) (with_operation origin is_formal) (operation_fine origin is_formal) p ds fine none

pub declarations_fine : (origin : List ℕ) (p : Presentation) (sections : WrittenSections) → IsFine p
    → declaration_fault origin p sections ≡ None → IsFine (with_declarations origin p sections)
declarations_fine origin p sections fine none =
    let operations = fault_along (operation_fault origin false) (with_operation origin false) (with_formal_operations origin p sections)
    sections.operations in
    let formal_operations = fault_along (operation_fault origin true) (with_operation origin true) (with_sorts origin p sections)
    sections.formal_operations in
    let sorts = fault_along (sort_fault origin false) (with_sort origin false) (with_formal_sorts origin p sections) sections.sorts in
    let one = none_first (fault_along (sort_fault origin true) (with_sort origin true) p sections.formal_sorts)
    (first_fault sorts (first_fault formal_operations operations)) none in
    let two = none_first sorts (first_fault formal_operations operations) one.1 in
    let three = none_first formal_operations operations two.1 in
    operations_fine origin false (with_formal_operations origin p sections) sections.operations
    (operations_fine origin true (with_sorts origin p sections) sections.formal_operations
    (sorts_fine origin false (with_formal_sorts origin p sections) sections.sorts
    (sorts_fine origin true p sections.formal_sorts fine one.0) two.0)
    three.0)
    three.1
