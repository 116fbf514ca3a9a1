use Rattle.std.proofs.lemmas.Result.{err_from_is_err_and}
use Rattle.type_presentations.specs.OperationListView.{operations_in}
use Rattle.type_definitions.specs.declared.type_faults.TypeFault.TheVariants.{NoMemory}
use Rattle.type_presentations.specs.PresentationView.{presentation_of}
use Rattle.type_presentations.proofs.SizeLemmas.{within_limits}
use Rattle.std.proofs.Common.{length}
use Rattle.type_actualisation.proofs.BringingLemmas.{as_many_operations, both_few, few_enough, formal_operation_refused, operations_coming}
use Rattle.type_actualisation.proofs.bringing.bring_all_ops.Goals as goal

pub actual_op_numbers-requires-clause-few : goal.actual_op_numbers-requires-clause-few
actual_op_numbers-requires-clause-few c = few_enough (length (operations_in c.args.list.now)) c.requires.few

pub actual_op_numbers-requires-clause-differ : goal.actual_op_numbers-requires-clause-differ
actual_op_numbers-requires-clause-differ c = c.requires.differ

pub returns-in_err-numbers-clause-ops : goal.returns-in_err-numbers-clause-ops
returns-in_err-numbers-clause-ops c =
    let e = err_from_is_err_and c.from_residual.result c.from_residual.ensures.1 in
    rw (e.1, e.2)
    (λ a parts.
    formal_operation_refused a c.in_err-numbers.field-0.0
    (c.in_err-numbers.ensures a parts.base_is parts.there_are parts.source_is.pairs_are parts.source_is.sorts_are))

pub bring_ops-requires-clause-few : goal.bring_ops-requires-clause-few
bring_ops-requires-clause-few c =
    both_few (length (operations_in c.args.list.now)) (length (operations_in c.args.base.now.ops)) c.requires.few
    (within_limits (presentation_of c.args.base.now) c.requires.within).operations

pub bring_ops-requires-clause-actuals : goal.bring_ops-requires-clause-actuals
bring_ops-requires-clause-actuals c =
    let parts = c.requires.parts.1 in
    as_many_operations c.requires.parts.0 c.args.base.now c.args.list.now c.args.source.now c.args.sorts.now
    c.in_ok-numbers.numbers.items c.as_slice.result.now parts c.as_slice.ensures.value
    (c.in_ok-numbers.ensures c.requires.parts.0 parts.base_is parts.there_are parts.source_is.pairs_are parts.source_is.sorts_are)

pub returns-in_err-came-clause-ops : goal.returns-in_err-came-clause-ops
returns-in_err-came-clause-ops c =
    let e = err_from_is_err_and c.from_residual-in_err-came.result c.from_residual-in_err-came.ensures.1 in
    rw (e.1, e.2) (λ a parts. formal_operation_refused a NoMemory tt)

pub returns-clause-ops : goal.returns-clause-ops
returns-clause-ops c = λ a parts.
    let are = c.in_ok-numbers.ensures a parts.base_is parts.there_are parts.source_is.pairs_are parts.source_is.sorts_are in record {
      none = are.none;
      came = c.in_ok-came.ensures.came a
          (operations_coming a c.args.base.now c.args.list.now c.args.source.now c.args.sorts.now c.in_ok-numbers.numbers.items
          c.as_slice.result.now parts c.as_slice.ensures.value are);
    }
