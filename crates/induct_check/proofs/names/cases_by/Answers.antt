use Rattle.lotos_base.proofs.Members.{member_at}
use Rattle.lotos_base.specs.Name.{spelling}
use Rattle.induct_parts.proofs.ListedParts.{within_operations}
use Rattle.induct_check.proofs.CaseSteps.{one_case}
use Rattle.induct_check.specs.KnownView.{known_signature}
use Rattle.induct_check.specs.NameView.{named_case_in, named_cases_in}
use Rattle.induct_check.proofs.names.cases_by.Goals as goal

pub add_if_listed-requires : goal.add_if_listed-requires
add_if_listed-requires c =
    member_at (known_signature c.args.known.now).operations c.loop-operation.operation
    (within_operations c.args.known.now.signature.now c.ops-operation-end.result.now c.loop-operation.operation
    c.ops-operation-end.ensures c.loop-operation-test.true)

pub loop-operation-preserved : goal.loop-operation-preserved
loop-operation-preserved c =
    one_case (known_signature c.args.known.now) (named_case_in c.args.point.now) (spelling c.args.name.now) c.args.operations.now
    c.loop-operation.operation (named_cases_in c.loop-operation.made.items) (named_cases_in c.add_if_listed.new.made.items) _
    (within_operations c.args.known.now.signature.now c.ops-operation-end.result.now c.loop-operation.operation
    c.ops-operation-end.ensures c.loop-operation-test.true)
    c.in_ok-add_if_listed.ensures c.loop-operation.invariant
