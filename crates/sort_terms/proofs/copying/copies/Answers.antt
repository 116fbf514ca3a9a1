use Rattle.std.proofs.Common.{take, ap, sym, ◌∙◌}
use Rattle.lotos_base.proofs.Pieces.{take_member}
use Rattle.sort_terms.specs.TermView.{all_profiled}
use Rattle.sort_terms.proofs.TermListLemmas.{all_profiled-append, with_last_profiled}
use Rattle.sort_terms.proofs.copying.copies.Goals as goal

pub loop-term-preserved : goal.loop-term-preserved
loop-term-preserved c =
    let xs = c.deref-term-items.result.now in
    let i = c.loop-term.term-index in
    ap all_profiled c.in_ok-push.ensures.items ∙ all_profiled-append c.loop-term.made.items c.in_ok-copy.field-0
    ∙ (λ j. with_last_profiled (c.loop-term.invariant j) (c.in_ok-copy.ensures j))
    ∙ sym (ap all_profiled (take_member xs i c.term-item.result c.loop-term-test.true c.term-item.is)
    ∙ all_profiled-append (take i xs) c.term-item.result)
