use Rattle.std.proofs.lemmas.Result.{MatchResult-weaker, err_from_is_err_and}
use Rattle.type_definitions.specs.declared.type_faults.TypeFault.TheVariants.{NoMemory}
use Rattle.type_presentations.specs.PresentationView.{presentation_of}
use Rattle.type_presentations.proofs.NameLemmas.{operations_named}
use Rattle.type_actualisation.proofs.PairLemmas.{operation_pairs_refused}
use Rattle.type_actualisation.proofs.actualising.index_of_ops.Goals as goal

pub returns-in_err-names : goal.returns-in_err-names
returns-in_err-names c =
    let e = err_from_is_err_and c.from_residual.result c.from_residual.ensures.1 in
    rw (e.1, e.2) (operation_pairs_refused (presentation_of c.args.base.now) c.args.pairs.now NoMemory tt)

pub returns : goal.returns
returns c =
    let base = presentation_of c.args.base.now in
    MatchResult-weaker c.look_at_op_pairs.result
    (c.look_at_op_pairs.ensures base.signature
    (operations_named c.in_ok-names.names _ _ c.ops.ensures c.in_ok-names.ensures))
    (λ index is. record { none = is.0; are = is.1 })
    (λ fault found. operation_pairs_refused base c.args.pairs.now fault found)
