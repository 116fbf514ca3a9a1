use Rattle.std.proofs.Common.{◌<◌, List, refl, ap, sym, ◌∙◌, arith}
use Rattle.std.specs.Prelude.{◌^◌}
use Rattle.std.proofs.lemmas.Result.{err_from_is_err_and}
use Rattle.sort_terms.specs.Operations.{operation_of}
use Rattle.sort_terms.specs.WellFormedTest.{all_differ, are_one_operation}
use Rattle.lotos_base.specs.Signature.{Operation}
use Rattle.type_presentations.specs.OperationListView.{operations_in}
use Rattle.type_definitions.proofs.HoldsLemmas.{holds_weaker}
use Rattle.type_definitions.proofs.WalkLemmas.{next_of, none_of}
use Rattle.type_definitions.specs.Presentation.{Presentation, is_marked_number}
use Rattle.type_definitions.specs.Actualisation.{actual_operation}
use Rattle.type_definitions.specs.ActualisationFaults.{formal_operation_fault}
use Rattle.type_presentations.proofs.SizeLemmas.{within_limits}
use Rattle.type_presentations.specs.PresentationView.{presentation_of}
use Rattle.type_renaming.specs.Actuals.{operation_lacks_actual}
use Rattle.type_renaming.proofs.ActualLemmas.{looked_none, looked_next, looked_fault, looked_all}
use Rattle.type_renaming.proofs.MarkedNames.{number_small}
use Rattle.type_renaming.proofs.SoughtLemmas.{profiles_there, turned_actual}
use Rattle.type_renaming.proofs.actual_ops.actual_op_numbers.Goals as goal

pub loop-number-init : goal.loop-number-init
loop-number-init c = λ a base ops pairs each.
    looked_none (formal_operation_fault a) a.base.presentation.formal_operations (actual_operation a)
    a.base.presentation.signature.operations _ _
    (c.ops-coming.ensures ∙ ap (λ (p : Presentation). p.signature.operations) (sym base.presentation_is))
    c.in_ok-numbers.ensures.items

pub overflow_cast-number : goal.overflow_cast-number
overflow_cast-number c =
    let small : c.loop-number.number < 2 ^ 32 =
    number_small (λ op. operation_of op.value) c.ops-coming.result.now _ c.loop-number.number c.ops-coming.ensures
    (within_limits (presentation_of c.args.base.now) c.requires.within).operations c.loop-number-test.true in
    omega (arith, small)

pub actual_of_op-requires : goal.actual_of_op-requires
actual_of_op-requires c = (
  operations_in c.args.ops.now,
  profiles_there (λ op. operation_of op.value) c.in_ok-profiles.profiles c.ops.result.now _ _ c.ops.ensures refl c.in_ok-profiles.ensures,
  c.requires.differ,
  c.requires.few,
)

pub loop-number-preserved : goal.loop-number-preserved
loop-number-preserved c = λ a base ops pairs each.
    let marked = c.has-is_formal.ensures ∙ ap (λ (p : Presentation). is_marked_number p.formal_operations c.loop-number.number)
    (sym base.presentation_is) in
    looked_next (operation_lacks_actual a) (formal_operation_fault a) a.base.presentation.formal_operations (actual_operation a)
    a.base.presentation.signature.operations c.loop-number.number _ _ c.loop-number.numbers.items c.push.new.self.items
    (operation_of c.index-coming-number.result.value) c.in_ok-found.found (refl, (λ x xs. refl))
    (c.loop-number.invariant a base ops pairs each)
    (next_of (λ op. operation_of op.value) c.ops-coming.result.now c.loop-number.number c.index-coming-number.result c.loop-number-test.true
    c.index-coming-number.is)
    (turned_actual a c.has-is_formal.result _ c.deref.result.now c.index-coming-number.result.value c.in_ok-found.found marked
    c.deref.ensures
    (c.in_ok-found.ensures a base.at_is (record {
      pairs_are = pairs;
      sorts_are = each;
      profiles_are = profiles_there (λ op. operation_of op.value) c.in_ok-profiles.profiles c.ops.result.now _ _ c.ops.ensures ops
          c.in_ok-profiles.ensures;
      differ = ap (λ (os : List Operation). all_differ are_one_operation os) ops ∙ c.requires.differ;
    })))
    c.in_ok-push.ensures.items

pub returns-in_err-found : goal.returns-in_err-found
returns-in_err-found c =
    let e = err_from_is_err_and c.from_residual-in_err-found.result c.from_residual-in_err-found.ensures.1 in
    rw (e.1, e.2) (λ a base ops pairs each.
    let marked = c.has-is_formal.ensures ∙ ap (λ (p : Presentation). is_marked_number p.formal_operations c.loop-number.number)
    (sym base.presentation_is) in
    holds_weaker _ _ c.in_err-found.field-0.0
    (λ f lacks.
    looked_fault (operation_lacks_actual a) (formal_operation_fault a) a.base.presentation.formal_operations (actual_operation a)
    a.base.presentation.signature.operations c.loop-number.number _ _ c.loop-number.numbers.items
    (operation_of c.index-coming-number.result.value) f
    (refl, (λ x xs. refl)) (c.loop-number.invariant a base ops pairs each)
    (next_of (λ op. operation_of op.value) c.ops-coming.result.now c.loop-number.number c.index-coming-number.result c.loop-number-test.true
    c.index-coming-number.is)
    (sym marked ∙ lacks.0) (sym (ap (λ o. operation_lacks_actual a (operation_of o)) c.deref.ensures) ∙ lacks.1))
    (c.in_err-found.ensures a base.at_is (record {
      pairs_are = pairs;
      sorts_are = each;
      profiles_are = profiles_there (λ op. operation_of op.value) c.in_ok-profiles.profiles c.ops.result.now _ _ c.ops.ensures ops
          c.in_ok-profiles.ensures;
      differ = ap (λ (os : List Operation). all_differ are_one_operation os) ops ∙ c.requires.differ;
    })))

pub returns : goal.returns
returns c = λ a base ops pairs each.
    let done =
    looked_all (operation_lacks_actual a) (formal_operation_fault a) a.base.presentation.formal_operations (actual_operation a)
    a.base.presentation.signature.operations c.loop-number.number _ c.loop-number.numbers.items (refl, (λ x xs. refl))
    (c.loop-number.invariant a base ops pairs each)
    (none_of (λ op. operation_of op.value) c.ops-coming.result.now c.loop-number.number (omega (arith, c.loop-number-test.false))) in
    record { none = done.0; are = done.1 }
