use Rattle.std.proofs.Common.{refl}
use Rattle.std.proofs.lemmas.Result.{MatchResult-weaker, err_from_is_err_and}
use Rattle.type_definitions.specs.declared.type_faults.TypeFault.TheVariants.{NoMemory}
use Rattle.type_actualisation.proofs.PairLemmas.{behind_sort_pairs_refused, pairs_refused, parts_of, parts_refused, with_operations}
use Rattle.type_actualisation.proofs.actualising.with_ops.Goals as goal

pub returns-in_err-formals : goal.returns-in_err-formals
returns-in_err-formals c =
    let e = err_from_is_err_and c.from_residual.result c.from_residual.ensures.1 in
    rw (e.1, e.2) (λ a source. behind_sort_pairs_refused a NoMemory tt)

pub returns-in_err-pairs : goal.returns-in_err-pairs
returns-in_err-pairs c =
    let e = err_from_is_err_and c.from_residual-in_err-pairs.result c.from_residual-in_err-pairs.ensures.1 in
    rw (e.1, e.2)
    (λ a source.
    pairs_refused a c.args.base.now c.args.actual.now c.args.sorts.now c.args.op_pairs.now c.in_err-pairs.field-0.0 source
    c.in_err-pairs.ensures)

pub bring-requires-clause-parts : goal.bring-requires-clause-parts
bring-requires-clause-parts c = (
  c.requires.sorts.0,
  parts_of c.requires.sorts.0 c.args.base.now c.args.actual.now c.args.sorts.now _ c.args.op_pairs.now c.requires.sorts.1 refl refl
      c.in_ok-formals.ensures c.in_ok-pairs.ensures.are,
)

pub returns : goal.returns
returns c = λ a source.
    MatchResult-weaker c.bring.result
    (c.bring.ensures a
    (parts_of a c.args.base.now c.args.actual.now c.args.sorts.now _ c.args.op_pairs.now source refl refl c.in_ok-formals.ensures
    c.in_ok-pairs.ensures.are))
    (λ numbers is. (
      with_operations a c.args.base.now c.args.actual.now c.bring.new.actual c.args.sorts.now c.args.op_pairs.now source
          c.in_ok-pairs.ensures.none is.0,
      is.1,
    ))
    (λ fault refused.
    parts_refused a c.args.base.now c.args.actual.now c.args.sorts.now c.args.op_pairs.now fault source c.in_ok-pairs.ensures.none
    refused)
