-- The data of an actualisation are well formed.
use Rattle.std.proofs.Common.{◌≡◌, ℕ, true, List, ◌⊎◌, inl, inr, map, ap, sym, ◌∙◌, subst}
use Rattle.std.specs.Prelude.{Some, slice_get}
use Rattle.type_presentations.proofs.UnionSignatures.{image_in}
use Rattle.lotos_base.specs.Signature.{Operation, IsSort, IsWellFormedSignature}
use Rattle.lotos_base.specs.Equation.{Equation, IsEquationOver, IsWellFormedData}
use Rattle.sort_terms.specs.WellFormedTest.{all_differ, are_one_sort, are_one_operation}
use Rattle.type_definitions.specs.Images.{operation_image, equation_image}
use Rattle.type_definitions.specs.Flattened.{flattened_data_of}
use Rattle.type_definitions.specs.UnionLaws.{IsIn}
use Rattle.type_definitions.specs.Actualisation.{Actualising, actualisation, actualised_sort, actualised_operation, other_operations_of, other_operation_image, operation_renamer}
use Rattle.type_definitions.proofs.WithNewLemmas.{first_appearances}
use Rattle.type_presentations.proofs.EquationImageLemmas.{image_over}
use Rattle.type_presentations.proofs.SignatureLemmas.{larger_sort, made_well_formed, over_larger}
use Rattle.type_actualisation.specs.ActualisationLaws.{HasActuals, ActualisedDataAreWellFormed}
use Rattle.type_actualisation.proofs.FormalLemmas.{unmarked_in}
use Rattle.type_actualisation.proofs.MapLemmas.{actual_is_within, base_goes, under_profile}

-- ---- The signature.

-- the operation of the base of which another one is the image
abbrev IsImageOf : Actualising → Operation → Type 0
IsImageOf a o = (b : Operation) × IsIn a.base.presentation.signature.operations b
    × ((o.arguments ≡ map (actualised_sort a) b.arguments) × (o.result ≡ actualised_sort a b.result))

image_of_other : (a : Actualising) (o : Operation) → IsIn (map (other_operation_image a) (other_operations_of a.base.presentation)) o
    → IsImageOf a o
image_of_other a o at =
    let before = image_in (other_operation_image a) (other_operations_of a.base.presentation) o at in
    let under = under_profile a.type_name (operation_renamer a before.0) (operation_image (actualised_sort a) before.0) in (
      before.0,
      unmarked_in a.base.presentation.formal_operations 0 a.base.presentation.signature.operations before.0 before.1,
      (
        sym (ap (λ (u : Operation). u.arguments) before.2) ∙ under.0,
        sym (ap (λ (u : Operation). u.result) before.2) ∙ under.1,
      ),
    )

other_result : (a : Actualising) → HasActuals a → IsWellFormedSignature a.base.presentation.signature → (o : Operation) → IsImageOf a o
    → IsSort (actualisation a).signature o.result
other_result a has fine o is =
    subst (λ (s : ℕ). IsSort (actualisation a).signature s) (sym is.2.1)
    ((base_goes a has).sorts is.0.result (fine.results is.1.0 is.0 is.1.1))

other_argument : (a : Actualising) → HasActuals a → IsWellFormedSignature a.base.presentation.signature → (o : Operation) (i s : ℕ)
    → IsImageOf a o → slice_get o.arguments i ≡ Some s → IsSort (actualisation a).signature s
other_argument a has fine o i s is there =
    let listed : slice_get (map (actualised_sort a) is.0.arguments) i ≡ Some s =
    ap (λ (ns : List ℕ). slice_get ns i) (sym is.2.0) ∙ there in
    let old = image_in (actualised_sort a) is.0.arguments s (i, listed) in
    subst (λ (n : ℕ). IsSort (actualisation a).signature n) old.2
    ((base_goes a has).sorts old.0 (fine.arguments is.1.0 old.1.0 old.0 is.0 is.1.1 old.1.1))

no_other_operations : (a : Actualising) (o : Operation) → IsIn (actualisation a).signature.operations o
    → IsIn a.actual.signature.operations o ⊎ IsIn (map (other_operation_image a) (other_operations_of a.base.presentation)) o
no_other_operations a o at =
    first_appearances.operations.adds_nothing a.actual.signature.operations
    (map (other_operation_image a) (other_operations_of a.base.presentation)) o at

signature_well_formed : (a : Actualising) → HasActuals a → IsWellFormedSignature a.base.presentation.signature
    → IsWellFormedSignature a.actual.signature → all_differ are_one_sort (actualisation a).signature.sorts ≡ true
    → all_differ are_one_operation (actualisation a).signature.operations ≡ true → IsWellFormedSignature (actualisation a).signature
signature_well_formed a has base actual sorts operations =
    made_well_formed (actualisation a).signature
    (λ f o at.
    elim (no_other_operations a o (f, at)) [
      | inl first ↦
          larger_sort a.actual.signature (actualisation a).signature o.result (actual_is_within a) (actual.results first.0 o first.1)
      | inr coming ↦ other_result a has base o (image_of_other a o coming)
    ])
    (λ f i s o at there.
    elim (no_other_operations a o (f, at)) [
      | inl first ↦
          larger_sort a.actual.signature (actualisation a).signature s (actual_is_within a)
          (actual.arguments first.0 i s o first.1 there)
      | inr coming ↦ other_argument a has base o i s (image_of_other a o coming) there
    ])
    sorts operations

-- ---- The data.

no_other_equations : (a : Actualising) (e : Equation) → IsIn (actualisation a).equations e
    → IsIn a.actual.equations e
    ⊎ IsIn (map (equation_image (actualised_sort a) (actualised_operation a)) a.base.presentation.equations) e
no_other_equations a e at =
    first_appearances.equations.adds_nothing a.actual.equations
    (map (equation_image (actualised_sort a) (actualised_operation a)) a.base.presentation.equations) e at

pub actualised_data : (a : Actualising) → HasActuals a → IsWellFormedData (flattened_data_of a.base.presentation)
    → IsWellFormedData (flattened_data_of a.actual)
    → all_differ are_one_sort (actualisation a).signature.sorts ≡ true
    → all_differ are_one_operation (actualisation a).signature.operations ≡ true → IsWellFormedData (flattened_data_of (actualisation a))
actualised_data a has base actual sorts operations = record {
  signature = signature_well_formed a has base.signature actual.signature sorts operations;
  equations = λ e at.
      elim (no_other_equations a e at) [
        | inl first ↦
            over_larger a.actual.signature (actualisation a).signature e (actual_is_within a) (actual.equations e first)
        | inr coming ↦
            (let before =
            image_in (equation_image (actualised_sort a) (actualised_operation a)) a.base.presentation.equations e coming in
            subst (λ (x : Equation). IsEquationOver (actualisation a).signature x) before.2
            (image_over a.base.presentation.signature (actualisation a).signature (actualised_sort a) (actualised_operation a) before.0
            (base_goes a has) (base.equations before.0 before.1)))
      ];
}

pub data_well_formed : ActualisedDataAreWellFormed
data_well_formed = record { base_goes = base_goes; well_formed = actualised_data }
