-- A renaming, made part by part.
use Rattle.std.proofs.Common.{◌≡◌, ℕ, List, [], ◌++◌, map, length, ap, sym, ◌∙◌}
use Rattle.std.specs.Prelude.{Option, None, false}
use Rattle.std.proofs.lemmas.List.{length-map}
use Rattle.lotos_base.specs.Signature.{Sort, Operation}
use Rattle.syntax_trees.specs.WrittenItem.{WrittenPair, WrittenPairs}
use Rattle.type_definitions.specs.TypeFault.{TypeFault, first_fault}
use Rattle.type_definitions.specs.Presentation.{Presentation, is_too_large}
use Rattle.type_definitions.specs.Renaming.{renamed_presentation, renaming_fault, renamed_sort, renamed_operation, renamed_sort_clash, renamed_operation_clash, sort_pairs_fault, operation_pairs_fault}
use Rattle.type_renaming.specs.Parts.{sorts_alone, with_these_operations, with_equations, with_marks}
use Rattle.type_renaming.proofs.PartLemmas.{as_large}

-- ---- Faults one after the other.

-- ---- The image.

-- a presentation with images of sorts and operations
abbrev pub with_images : List ℕ → WrittenPairs → List ℕ → WrittenPairs → Presentation → List Sort → List Operation → Presentation
with_images t ps u qs base sorts operations = record {
  signature = record { sorts = map (renamed_sort t ps) sorts; operations = map (renamed_operation u qs) operations };
  equations = base.equations;
  formal_sorts = base.formal_sorts;
  formal_operations = base.formal_operations;
}

-- operations, equations and marks behind the sorts
pub completed : (u : List ℕ) (qs : WrittenPairs) (base one two three four : Presentation) (os : List Operation)
    → os ≡ base.signature.operations → two ≡ with_these_operations one (map (renamed_operation u qs) os)
    → three ≡ with_equations two base.equations → four ≡ with_marks three base.formal_sorts base.formal_operations
    → four
    ≡ with_marks (with_equations (with_these_operations one (map (renamed_operation u qs) base.signature.operations)) base.equations)
    base.formal_sorts base.formal_operations
completed u qs base one two three four os operations second third fourth =
    fourth ∙ ap (λ (p : Presentation). with_marks p base.formal_sorts base.formal_operations) third
    ∙ ap (λ (p : Presentation). with_marks (with_equations p base.equations) base.formal_sorts base.formal_operations) second
    ∙ ap
    (λ (xs : List Operation).
    with_marks (with_equations (with_these_operations one (map (renamed_operation u qs) xs)) base.equations) base.formal_sorts
    base.formal_operations)
    operations

-- that is within the limits, where the base is
pub completed_within : (u : List ℕ) (qs : WrittenPairs) (base one : Presentation) → length one.signature.sorts ≡ length base.signature.sorts
    → one ≡ sorts_alone one.signature.sorts → is_too_large base ≡ false
    → is_too_large
    (with_marks (with_equations (with_these_operations one (map (renamed_operation u qs) base.signature.operations)) base.equations)
    base.formal_sorts base.formal_operations)
    ≡ false
completed_within u qs base one sorts alone within =
    as_large base
    (with_marks (with_equations (with_these_operations one (map (renamed_operation u qs) base.signature.operations)) base.equations)
    base.formal_sorts base.formal_operations)
    sorts (length-map base.signature.operations (renamed_operation u qs))
    (ap (λ (p : Presentation). length (p.equations ++ base.equations)) alone) within

pub whole_image : (t u : List ℕ) (ps qs : WrittenPairs) (base one four : Presentation) (ss : List Sort) → ss ≡ base.signature.sorts
    → one ≡ renamed_presentation (sorts_alone ss) t ps
    → four
    ≡ with_marks (with_equations (with_these_operations one (map (renamed_operation u qs) base.signature.operations)) base.equations)
    base.formal_sorts base.formal_operations
    → four ≡ with_images t ps u qs base base.signature.sorts base.signature.operations
whole_image t u ps qs base one four ss sorts first all =
    all
    ∙ ap
    (λ (p : Presentation).
    with_marks (with_equations (with_these_operations p (map (renamed_operation u qs) base.signature.operations)) base.equations)
    base.formal_sorts base.formal_operations)
    first
    ∙ ap (λ (xs : List Sort). with_images t ps u qs base xs base.signature.operations) sorts

-- ---- All of it, over pairs that were looked at.

abbrev pub sorts_by : List WrittenPair → WrittenPairs
sorts_by pairs = record { sort_pairs = pairs; operation_pairs = [] }

abbrev pub operations_by : List WrittenPair → WrittenPairs
operations_by pairs = record { sort_pairs = []; operation_pairs = pairs }

abbrev pub both_by : List WrittenPair → List WrittenPair → WrittenPairs
both_by sorts operations = record { sort_pairs = sorts; operation_pairs = operations }

pub clashes_are : (t : List ℕ) (base : Presentation) (ps qs sorts operations : List WrittenPair)
    → sort_pairs_fault base.signature [] sorts ≡ None → operation_pairs_fault base.signature [] operations ≡ None → ps ≡ sorts
    → qs ≡ operations
    → first_fault (renamed_sort_clash base t (sorts_by ps)) (renamed_operation_clash base t (operations_by qs))
    ≡ renaming_fault base t (both_by sorts operations)
clashes_are t base ps qs sorts operations none no_other same_sorts same_operations =
    ap (λ (xs : List WrittenPair).
    first_fault (renamed_sort_clash base t (sorts_by xs)) (renamed_operation_clash base t (operations_by qs)))
    same_sorts
    ∙ ap (λ (xs : List WrittenPair).
    first_fault (renamed_sort_clash base t (sorts_by sorts)) (renamed_operation_clash base t (operations_by xs)))
    same_operations
    ∙ sym (ap (λ (o : Option TypeFault).
    first_fault o
    (first_fault (operation_pairs_fault base.signature [] operations)
    (first_fault (renamed_sort_clash base t (both_by sorts operations)) (renamed_operation_clash base t (both_by sorts operations)))))
    none
    ∙ ap (λ (o : Option TypeFault).
    first_fault o
    (first_fault (renamed_sort_clash base t (both_by sorts operations)) (renamed_operation_clash base t (both_by sorts operations))))
    no_other)

pub images_are : (t : List ℕ) (base : Presentation) (ps qs sorts operations : List WrittenPair) → ps ≡ sorts → qs ≡ operations
    → with_images t (sorts_by ps) t (operations_by qs) base base.signature.sorts base.signature.operations
    ≡ renamed_presentation base t (both_by sorts operations)
images_are t base ps qs sorts operations same_sorts same_operations =
    ap (λ (xs : List WrittenPair).
    with_images t (sorts_by xs) t (operations_by qs) base base.signature.sorts base.signature.operations)
    same_sorts
    ∙ ap (λ (xs : List WrittenPair).
    with_images t (sorts_by sorts) t (operations_by xs) base base.signature.sorts base.signature.operations)
    same_operations
