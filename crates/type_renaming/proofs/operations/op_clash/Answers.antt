use Rattle.std.proofs.Common.{map, sym, ◌∙◌}
use Rattle.std.proofs.lemmas.Result.{IfOk-weaker}
use Rattle.lotos_base.specs.Signature.{Operation}
use Rattle.sort_terms.specs.Operations.{operation_of}
use Rattle.type_renaming.proofs.PartLemmas.{shared}
use Rattle.sort_terms.specs.WellFormedTest.{are_one_operation}
use Rattle.syntax_trees.specs.TreeViews.{pair_of}
use Rattle.type_definitions.specs.TypeFault.{double_operation}
use Rattle.type_definitions.specs.Renaming.{pair_for, renamed_operation}
use Rattle.type_definitions.proofs.HoldsLemmas.{holds_weaker}
use Rattle.type_renaming.specs.RenamerView.{operation_pairs_in, type_name_in}
use Rattle.type_renaming.proofs.ClashLemmas.{own_clash, is_told, from_either_side}
use Rattle.type_renaming.proofs.PairLemmas.{operations_turned, operations_alike}
use Rattle.type_renaming.proofs.operations.op_clash.Goals as goal

pub returns-in-Some : goal.returns-in-Some
returns-in-Some c =
    let t = type_name_in c.args.renamer.now in
    let ps = operation_pairs_in c.args.renamer.now in
    let at =
    own_clash (λ (one : Operation) (other : Operation). are_one_operation (renamed_operation t ps one) (renamed_operation t ps other))
    (λ (o : Operation). pair_for ps.operation_pairs o.name) double_operation (map shared c.args.earlier.now) (operation_of c.args.op.now)
    (pair_of c.in-Some.pair.now) (sym (rw c.in-Some.is at c.in_ok-own.ensures))
    (from_either_side are_one_operation operations_turned (renamed_operation t ps) (map shared c.args.earlier.now)
    (operation_of c.args.op.now)
    ∙ c.requires.clash) in
    IfOk-weaker c.double_op_at.result _ _ (λ fault found. holds_weaker _ _ fault (λ f e. at ∙ e) found) c.double_op_at.ensures

pub pair_of_earlier-requires-clause-own : goal.pair_of_earlier-requires-clause-own
pair_of_earlier-requires-clause-own c = sym (rw c.in_default.is at c.in_ok-own.ensures)

pub unreachable-requires : goal.unreachable-requires
unreachable-requires c =
    let t = type_name_in c.args.renamer.now in
    let ps = operation_pairs_in c.args.renamer.now in
    is_told (λ (one : Operation) (other : Operation). are_one_operation (renamed_operation t ps one)
    (renamed_operation t ps other)) are_one_operation
    (λ (o : Operation). pair_for ps.operation_pairs o.name) double_operation (map shared c.args.earlier.now) (operation_of c.args.op.now)
    (operations_alike t ps (operation_of c.args.op.now) (sym (rw c.in_default.is at c.in_ok-own.ensures)))
    (from_either_side are_one_operation operations_turned (renamed_operation t ps) (map shared c.args.earlier.now)
    (operation_of c.args.op.now)
    ∙ c.requires.clash)
    c.requires.apart (rw c.in_default-found.is at c.in_ok-found.ensures)

pub returns : goal.returns
returns c =
    IfOk-weaker c.double_op_at-2.result _ _
    (λ fault found. holds_weaker _ _ fault (λ f e. rw c.in-Some-found.is at c.in_ok-found.ensures ∙ e) found) c.double_op_at-2.ensures
