use Rattle.std.proofs.Common.{length, map, refl, arith}
use Rattle.sort_terms.specs.Operations.{operation_of}
use Rattle.type_presentations.specs.OperationListView.{operations_in}
use Rattle.type_renaming.proofs.MemberLemmas.{as_long, fresh_for, same_operations}
use Rattle.type_renaming.proofs.coming_operations.bring_ops.Goals as goal

pub bring_each-requires-clause-few : goal.bring_each-requires-clause-few
bring_each-requires-clause-few c =
    let many = as_long (λ op. operation_of op.value) c.ops-2.result.now (operations_in c.args.base.now.ops) c.ops-2.ensures in
    omega (arith, many, c.requires.few)

pub bring_each-requires-clause-actuals : goal.bring_each-requires-clause-actuals
bring_each-requires-clause-actuals c =
    let many = as_long (λ op. operation_of op.value) c.ops-2.result.now (operations_in c.args.base.now.ops) c.ops-2.ensures in
    omega (arith, many, c.requires.actuals)

pub bring_each-requires-clause-fresh : goal.bring_each-requires-clause-fresh
bring_each-requires-clause-fresh c =
    fresh_for (λ op. operation_of op.value) c.ops.result.now (operations_in c.args.list.now) c.in_ok-came.came
    (length c.ops.result.now) c.ops.ensures refl
    c.in_ok-came.ensures

pub returns-clause-came : goal.returns-clause-came
returns-clause-came c = λ a of.
    c.in_ok-bring_each.ensures.came a
    (same_operations a c.args.source.now c.args.sorts.now (operations_in c.args.list.now) (operations_in c.args.base.now.ops) (map
    (λ op. operation_of op.value) c.ops-2.result.now)
    c.args.actuals.now c.ops-2.ensures of)
