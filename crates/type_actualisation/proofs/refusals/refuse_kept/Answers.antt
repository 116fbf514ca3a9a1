use Rattle.std.proofs.lemmas.Result.{err_from_is_err_and}
use Rattle.type_actualisation.proofs.FaultLemmas.{refused_first, refused_second, refused_third, refused_fourth, nothing_kept}
use Rattle.type_actualisation.proofs.refusals.refuse_kept.Goals as goal

pub returns-in_err-refuse_double_sort : goal.returns-in_err-refuse_double_sort
returns-in_err-refuse_double_sort c =
    let e = err_from_is_err_and c.from_residual.result c.from_residual.ensures.1 in
    rw (e.1, e.2)
    (refused_first c.args.sorts.now c.args.ops.now c.in_err-refuse_double_sort.field-0.0 c.in_err-refuse_double_sort.ensures)

pub returns-in_err-refuse_double_operation : goal.returns-in_err-refuse_double_operation
returns-in_err-refuse_double_operation c =
    let e =
    err_from_is_err_and c.from_residual-in_err-refuse_double_operation.result c.from_residual-in_err-refuse_double_operation.ensures.1 in
    rw (e.1, e.2)
    (refused_second c.args.sorts.now c.args.ops.now c.in_err-refuse_double_operation.field-0.0 c.in_ok-refuse_double_sort.ensures
    c.in_err-refuse_double_operation.ensures)

pub returns-in_err-refuse_too_many : goal.returns-in_err-refuse_too_many
returns-in_err-refuse_too_many c =
    let e = err_from_is_err_and c.from_residual-in_err-refuse_too_many.result c.from_residual-in_err-refuse_too_many.ensures.1 in
    rw (e.1, e.2)
    (refused_third c.args.sorts.now c.args.ops.now c.in_err-refuse_too_many.field-0.0 c.in_ok-refuse_double_sort.ensures
    c.in_ok-refuse_double_operation.ensures c.in_err-refuse_too_many.ensures)

pub returns-in_err-refuse_too_many-2 : goal.returns-in_err-refuse_too_many-2
returns-in_err-refuse_too_many-2 c =
    let e = err_from_is_err_and c.from_residual-in_err-refuse_too_many-2.result c.from_residual-in_err-refuse_too_many-2.ensures.1 in
    rw (e.1, e.2)
    (refused_fourth c.args.sorts.now c.args.ops.now c.in_err-refuse_too_many-2.field-0.0 c.in_ok-refuse_double_sort.ensures
    c.in_ok-refuse_double_operation.ensures c.in_ok-refuse_too_many.ensures c.in_err-refuse_too_many-2.ensures)

pub returns : goal.returns
returns c =
    nothing_kept c.args.sorts.now c.args.ops.now c.in_ok-refuse_double_sort.ensures c.in_ok-refuse_double_operation.ensures
    c.in_ok-refuse_too_many.ensures c.in_ok-refuse_too_many-2.ensures
