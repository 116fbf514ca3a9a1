use Rattle.std.proofs.Common.{sym, ◌∙◌, arith}
use Rattle.session_log.proofs.EntryLemmas.{sort_after}
use Rattle.session_log.proofs.entries.other_sort.Goals as goal

pub loop-variable-preserved : goal.loop-variable-preserved
loop-variable-preserved c = λ signature terms.
    let h = c.loop-variable.invariant signature terms in
    let after = sort_after signature c.loop-variable.variable c.args.sorts.now.items c.args.values.now c.index.result.now
    c.index-values-variable.result c.loop-variable-test.true c.index-values-variable.is
    (omega (arith, c.loop-variable-test.true, c.requires.counted)) c.index.ensures h.1 (sym c.sort.ensures ∙ c.if-sort-index.false) in
    (sym after.0 ∙ h.0, after.1)
