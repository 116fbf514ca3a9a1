-- The sections of a type, one after the other.
use Rattle.std.proofs.Common.{◌≡◌, ℕ, Bool, true, false, List, ap, sym, ◌∙◌}
use Rattle.std.specs.Prelude.{Option, Some, None, fold}
use Rattle.syntax_trees.specs.WrittenItem.{WrittenOperation, WrittenSections}
use Rattle.type_definitions.specs.TypeFault.{TypeFault, fault_along}
use Rattle.type_definitions.specs.Presentation.{Presentation}
use Rattle.type_definitions.specs.Declarations.{with_sort, sort_fault, with_operation, operation_fault, with_formal_sorts, with_sorts, with_formal_operations, with_declarations, declaration_fault}
use Rattle.type_definitions.specs.FaultView.{IsFaultFound}
use Rattle.type_definitions.specs.declared.type_faults.TypeFault.{TypeFault as CodeFault}
use Rattle.type_definitions.proofs.FaultLemmas.{first_fails}
use Rattle.type_presentations.specs.DeclarationMade.{IsDeclarationFault}
use Rattle.type_presentations.specs.DeclaredOperation.{sort_names}
use Rattle.type_presentations.proofs.DeclareLemmas.{later_fails, none_fails, ops_keep_sorts}

moved : {S D : Type 0} (fault_of : S → D → Option TypeFault) (after : S → D → S) (now then : S) (ds : List D) (found : Option TypeFault)
    → now ≡ then → fault_along fault_of after now ds ≡ found → fault_along fault_of after then ds ≡ found
moved {S = S} fault_of after now then ds found is told = ap (λ (s : S). fault_along fault_of after s ds) (sym is) ∙ told

pub refused : (type_name : List ℕ) (before : Presentation) (sections : WrittenSections) (fault : CodeFault)
    → IsFaultFound (declaration_fault type_name before sections) fault → IsDeclarationFault type_name before sections fault
refused type_name before sections fault h = record { found = h }

-- ---- Formal sorts, then own ones.

pub formal_sorts_fail : (origin : List ℕ) (p : Presentation) (sections : WrittenSections) (fault : TypeFault)
    → fault_along (sort_fault origin true) (with_sort origin true) p sections.formal_sorts ≡ Some fault
    → declaration_fault origin p sections ≡ Some fault
formal_sorts_fail origin p sections fault found = first_fails _ _ fault found

pub record HasFormalSorts (origin : List ℕ) (p : Presentation) (sections : WrittenSections) (now : Presentation) : Type 0 where
  pub none : fault_along (sort_fault origin true) (with_sort origin true) p sections.formal_sorts ≡ None
  pub is : now ≡ with_formal_sorts origin p sections

pub sorts_fail : (origin : List ℕ) (p now : Presentation) (sections : WrittenSections) (fault : TypeFault)
    → HasFormalSorts origin p sections now
    → fault_along (sort_fault origin false) (with_sort origin false) now sections.sorts ≡ Some fault
    → declaration_fault origin p sections ≡ Some fault
sorts_fail origin p now sections fault before found =
    later_fails _ _ fault before.none
    (first_fails _ _ fault (moved (sort_fault origin false) (with_sort origin false) now _ sections.sorts (Some fault) before.is found))

pub record HasSorts (origin : List ℕ) (p : Presentation) (sections : WrittenSections) (now : Presentation) : Type 0 where
  pub formal : fault_along (sort_fault origin true) (with_sort origin true) p sections.formal_sorts ≡ None
  pub own :
      fault_along (sort_fault origin false) (with_sort origin false) (with_formal_sorts origin p sections) sections.sorts ≡ None
  pub is : now ≡ with_sorts origin p sections

pub has_sorts : (origin : List ℕ) (p old new : Presentation) (sections : WrittenSections) → HasFormalSorts origin p sections old
    → fault_along (sort_fault origin false) (with_sort origin false) old sections.sorts ≡ None
    → new ≡ fold (with_sort origin false) old sections.sorts → HasSorts origin p sections new
has_sorts origin p old new sections before none is = record {
  formal = before.none;
  own = moved (sort_fault origin false) (with_sort origin false) old _ sections.sorts None before.is none;
  is = is ∙ ap (λ (q : Presentation). fold (with_sort origin false) q sections.sorts) before.is;
}

-- ---- Formal operations, then own ones.

pub formal_operations_fail : (origin : List ℕ) (p now : Presentation) (sections : WrittenSections) (fault : TypeFault)
    → HasSorts origin p sections now
    → fault_along (operation_fault origin true) (with_operation origin true) now sections.formal_operations ≡ Some fault
    → declaration_fault origin p sections ≡ Some fault
formal_operations_fail origin p now sections fault before found =
    later_fails _ _ fault before.formal
    (later_fails _ _ fault before.own
    (first_fails _ _ fault
    (moved (operation_fault origin true) (with_operation origin true) now _ sections.formal_operations (Some fault) before.is found)))

pub record HasFormalOperations (origin : List ℕ) (p : Presentation) (sections : WrittenSections) (now : Presentation) : Type 0 where
  pub formal : fault_along (sort_fault origin true) (with_sort origin true) p sections.formal_sorts ≡ None
  pub own :
      fault_along (sort_fault origin false) (with_sort origin false) (with_formal_sorts origin p sections) sections.sorts ≡ None
  pub operations :
      fault_along (operation_fault origin true) (with_operation origin true) (with_sorts origin p sections)
      sections.formal_operations
      ≡ None
  pub is : now ≡ with_formal_operations origin p sections

pub has_formal_operations : (origin : List ℕ) (p old new : Presentation) (sections : WrittenSections) → HasSorts origin p sections old
    → fault_along (operation_fault origin true) (with_operation origin true) old sections.formal_operations ≡ None
    → new ≡ fold (with_operation origin true) old sections.formal_operations → HasFormalOperations origin p sections new
has_formal_operations origin p old new sections before none is = record {
  formal = before.formal;
  own = before.own;
  operations = moved (operation_fault origin true) (with_operation origin true) old _ sections.formal_operations None before.is none;
  is = is ∙ ap (λ (q : Presentation). fold (with_operation origin true) q sections.formal_operations) before.is;
}

pub operations_fail : (origin : List ℕ) (p now : Presentation) (sections : WrittenSections) (fault : TypeFault)
    → HasFormalOperations origin p sections now
    → fault_along (operation_fault origin false) (with_operation origin false) now sections.operations ≡ Some fault
    → declaration_fault origin p sections ≡ Some fault
operations_fail origin p now sections fault before found =
    later_fails _ _ fault before.formal
    (later_fails _ _ fault before.own
    (later_fails _ _ fault before.operations
    (moved (operation_fault origin false) (with_operation origin false) now _ sections.operations (Some fault) before.is found)))

pub all_declared : (origin : List ℕ) (p old new : Presentation) (sections : WrittenSections) → HasFormalOperations origin p sections old
    → fault_along (operation_fault origin false) (with_operation origin false) old sections.operations ≡ None
    → new ≡ fold (with_operation origin false) old sections.operations
    → (declaration_fault origin p sections ≡ None) × (new ≡ with_declarations origin p sections)
all_declared origin p old new sections before none is = (
  none_fails _ _ before.formal
      (none_fails _ _ before.own
      (none_fails _ _ before.operations
      (moved (operation_fault origin false) (with_operation origin false) old _ sections.operations None before.is none))),
  is ∙ ap (λ (q : Presentation). fold (with_operation origin false) q sections.operations) before.is,
)

-- operations leave the names of the sorts
pub sort_names_stay : (origin : List ℕ) (is_formal : Bool) (old new : Presentation) (ds : List WrittenOperation)
    → new ≡ fold (with_operation origin is_formal) old ds → sort_names old ≡ sort_names new
sort_names_stay origin is_formal old new ds is =
    sym (ap (λ (p : Presentation). sort_names p) is ∙ ops_keep_sorts origin is_formal old ds)
