-- Flattened data are what the law on flat data asks: they have no more members than types may have.
use Rattle.std.proofs.Common.{◌≡◌, ◌≤◌, ℕ, List, [], ◌∷◌, subst, arith}
use Rattle.std.specs.Prelude.{None, fold, length}
use Rattle.lotos_base.specs.Equation.{Place, Data}
use Rattle.type_definitions.specs.TypeFault.{double_sort, double_operation, too_large, fault_if, first_fault, fault_along}
use Rattle.type_definitions.specs.Presentation.{Presentation, nothing, presentation_limit, has_sort_clash, has_operation_clash, is_too_large}
use Rattle.type_definitions.specs.Union.{Mentioned, with_mentioned, mention_fault, union_of, presentation_fault}
use Rattle.type_definitions.specs.Flattened.{without_formals}
use Rattle.type_definitions.proofs.FaultLemmas.{none_first, not_past}
use Rattle.type_presentations.proofs.SizeLemmas.{IsSmall, within_limits}
use Rattle.type_flatten.proofs.TypesFine.{flattened_data}
use Rattle.session_laws.specs.DataLaws.{FlattenedEquationsAreNumbered, FlattenedDataAreOfText}

few_here : (place : Place) (name : List ℕ) (p : Presentation) → presentation_fault place name p ≡ None → IsSmall p
few_here place name p none =
    let behind_sorts = (none_first (fault_if (has_sort_clash p) (double_sort place name))
    (first_fault (fault_if (has_operation_clash p) (double_operation place name)) (fault_if (is_too_large p) (too_large place name)))
    none).1 in
    let size = (none_first (fault_if (has_operation_clash p) (double_operation place name))
    (fault_if (is_too_large p) (too_large place name)) behind_sorts).1 in
    within_limits p (not_past (is_too_large p) (too_large place name) size)

few_in_all : (p : Presentation) (all : List Mentioned) → IsSmall p
    → fault_along mention_fault with_mentioned p all ≡ None → IsSmall (fold with_mentioned p all)
few_in_all p [] few none = few
few_in_all p (m ∷ all) few none =
    let parts = none_first (mention_fault p m) (fault_along mention_fault with_mentioned (with_mentioned p m) all) none in
    few_in_all (with_mentioned p m) all (few_here m.at.place m.at.name (with_mentioned p m) parts.0) parts.1

pub flattened_data_are_of_text : FlattenedEquationsAreNumbered → FlattenedDataAreOfText
flattened_data_are_of_text numbered types data_ is names few = record {
  well_formed = flattened_data.flattened types data_ is;
  infix_operations = names.infix_operations;
  equations = numbered types data_ is;
  limits = record {
    sorts = subst (λ (d : Data). length d.signature.sorts ≤ presentation_limit) is.answered small.sorts;
    operations = subst (λ (d : Data). length d.signature.operations ≤ presentation_limit) is.answered small.operations;
    equations = subst (λ (d : Data). length d.equations ≤ presentation_limit) is.answered small.equations;
    variables = few;
  };
}
  where
    small : IsSmall (union_of (without_formals is.all))
    small =
        few_in_all nothing (without_formals is.all)
        (record { sorts = omega arith; operations = omega arith; equations = omega arith }) is.united
