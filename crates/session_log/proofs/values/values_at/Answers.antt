use Rattle.std.proofs.Common.{◌+◌, map, sym, subst}
use Rattle.lotos_base.specs.WrittenView.{written_term_of}
use Rattle.sort_terms.specs.ReaderView.{signature_read}
use Rattle.lotos_base.proofs.Options.{gave_up}
use Rattle.session_log.proofs.ValueLemmas.{AreHalfRead, none_read, next_read, next_told, values_read}
use Rattle.session_log.proofs.values.values_at.Goals as goal

pub loop-index-init : goal.loop-index-init
loop-index-init c = none_read (signature_read c.args.reader.now) _ _ _ c.new-values.ensures.items

pub loop-index-preserved : goal.loop-index-preserved
loop-index-preserved c =
    let signature = signature_read c.args.reader.now in
    let sorts = c.args.sorts.now.items in
    let terms = c.args.terms.now in
    subst (AreHalfRead signature sorts (map written_term_of terms) (c.loop-index.index + 1)) (sym c.in_ok-push_value.ensures)
    (next_read signature sorts terms c.loop-index.index c.loop-index.values.items c.requires c.loop-index.invariant
    c.index-terms-index.result c.index.result.now c.loop-index-test.true c.index-terms-index.is c.index.ensures c.in_ok-value.value
    c.in_ok-value.ensures)

pub returns-in_err-value : goal.returns-in_err-value
returns-in_err-value c =
    gave_up _ _ c.from_residual.result c.in_err-value.field-0.0 c.from_residual.ensures.1
    (next_told (signature_read c.args.reader.now) c.args.sorts.now.items c.args.terms.now c.loop-index.index c.loop-index.values.items
    c.requires c.loop-index.invariant c.index-terms-index.result c.index.result.now c.loop-index-test.true c.index-terms-index.is
    c.index.ensures c.in_err-value.field-0.0 c.in_err-value.ensures)

pub returns : goal.returns
returns c =
    values_read (signature_read c.args.reader.now) c.args.sorts.now.items c.args.terms.now c.loop-index.index c.loop-index.values.items
    c.requires c.loop-index.invariant c.loop-index-test.false
