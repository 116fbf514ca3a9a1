use Rattle.std.proofs.lemmas.Result.{err_from_is_err_and}
use Rattle.type_presentations.specs.SortListView.{sorts_in}
use Rattle.type_definitions.specs.declared.type_faults.TypeFault.TheVariants.{NoMemory}
use Rattle.type_presentations.specs.PresentationView.{presentation_of}
use Rattle.type_presentations.proofs.SizeLemmas.{within_limits}
use Rattle.std.proofs.Common.{length}
use Rattle.type_actualisation.proofs.BringingLemmas.{as_many_sorts, both_few, few_enough, formal_sort_refused, sorts_coming}
use Rattle.type_actualisation.proofs.bringing.bring_all_sorts.Goals as goal

pub actual_sort_numbers-requires-clause-few : goal.actual_sort_numbers-requires-clause-few
actual_sort_numbers-requires-clause-few c = few_enough (length (sorts_in c.args.list.now)) c.requires.few

pub returns-in_err-numbers-clause-sorts : goal.returns-in_err-numbers-clause-sorts
returns-in_err-numbers-clause-sorts c =
    let e = err_from_is_err_and c.from_residual.result c.from_residual.ensures.1 in
    rw (e.1, e.2)
    (λ a parts.
    formal_sort_refused a c.in_err-numbers.field-0.0
    (c.in_err-numbers.ensures a parts.base_is parts.there_are parts.source_is.pairs_are))

pub bring_sorts-requires-clause-few : goal.bring_sorts-requires-clause-few
bring_sorts-requires-clause-few c =
    both_few (length (sorts_in c.args.list.now)) (length (sorts_in c.args.base.now.sorts)) c.requires.few
    (within_limits (presentation_of c.args.base.now) c.requires.within).sorts

pub bring_sorts-requires-clause-actuals : goal.bring_sorts-requires-clause-actuals
bring_sorts-requires-clause-actuals c =
    let parts = c.requires.parts.1 in
    as_many_sorts c.requires.parts.0 c.args.base.now c.args.list.now c.args.source.now c.in_ok-numbers.numbers.items
    c.as_slice.result.now parts c.as_slice.ensures.value
    (c.in_ok-numbers.ensures c.requires.parts.0 parts.base_is parts.there_are parts.source_is.pairs_are)

pub returns-in_err-came-clause-sorts : goal.returns-in_err-came-clause-sorts
returns-in_err-came-clause-sorts c =
    let e = err_from_is_err_and c.from_residual-in_err-came.result c.from_residual-in_err-came.ensures.1 in
    rw (e.1, e.2) (λ a parts. formal_sort_refused a NoMemory tt)

pub returns-clause-sorts : goal.returns-clause-sorts
returns-clause-sorts c = λ a parts.
    let are = c.in_ok-numbers.ensures a parts.base_is parts.there_are parts.source_is.pairs_are in record {
      none = are.none;
      came = c.in_ok-came.ensures.came a
          (sorts_coming a c.args.base.now c.args.list.now c.args.source.now c.in_ok-numbers.numbers.items c.as_slice.result.now parts
          c.as_slice.ensures.value are);
    }
