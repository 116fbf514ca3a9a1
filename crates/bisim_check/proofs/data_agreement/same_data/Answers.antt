use Rattle.std.proofs.Common.{sym, ◌∙◌}
use Rattle.bisim_check.proofs.DataLemmas.{never, sorts_told, operations_told, equations_told}
use Rattle.bisim_check.proofs.data_agreement.same_data.Goals as goal

pub returns-then-not-all_agree : goal.returns-then-not-all_agree
returns-then-not-all_agree c =
    let left = c.args.left.now.signature.sorts.items in
    let right = c.args.right.now.signature.sorts.items in
    let told = sorts_told c.all_agree.result c.sorts.result.now c.sorts-2.result.now left right c.sorts.ensures c.sorts-2.ensures
    c.all_agree.ensures in
    ((λ h. absurd (never h)), (λ same. sym c.if-not-all_agree.true ∙ told.1 same.sorts))

pub returns-then-not-all_agree-2 : goal.returns-then-not-all_agree-2
returns-then-not-all_agree-2 c =
    let left = c.args.left.now.signature.ops.items in
    let right = c.args.right.now.signature.ops.items in
    let told = operations_told c.all_agree-2.result c.ops.result.now c.ops-2.result.now left right c.ops.ensures c.ops-2.ensures
    c.all_agree-2.ensures in
    ((λ h. absurd (never h)), (λ same. sym c.if-not-all_agree-2.true ∙ told.1 same.operations))

pub returns : goal.returns
returns c =
    let left = c.args.left.now in
    let right = c.args.right.now in
    let sorts = sorts_told c.all_agree.result c.sorts.result.now c.sorts-2.result.now left.signature.sorts.items
    right.signature.sorts.items c.sorts.ensures c.sorts-2.ensures c.all_agree.ensures in
    let operations = operations_told c.all_agree-2.result c.ops.result.now c.ops-2.result.now left.signature.ops.items
    right.signature.ops.items c.ops.ensures c.ops-2.ensures c.all_agree-2.ensures in
    let equations = equations_told c.all_agree-3.result c.as_slice.result.now c.as_slice-2.result.now left.equations.items
    right.equations.items c.as_slice.ensures.value c.as_slice-2.ensures.value c.all_agree-3.ensures in (
      (λ h. record {
        sorts = sorts.0 c.if-not-all_agree.false;
        operations = operations.0 c.if-not-all_agree-2.false;
        equations = equations.0 h;
      }),
      (λ same. equations.1 same.equations),
    )
