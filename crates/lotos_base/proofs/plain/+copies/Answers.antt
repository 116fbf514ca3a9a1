use Rattle.lotos_base.proofs.PlainLemmas.{copied_more}
use Rattle.lotos_base.proofs.plain.+copies.Goals as goal

pub copies-loop-term-preserved : goal.copies-loop-term-preserved
copies-loop-term-preserved t c =
    copied_more c.deref-term-items.result.now c.loop-term.made.items c.push.new.self.items c.loop-term.term-index c.term-item.result
    c.in_ok-copy.field-0
    c.loop-term-test.true c.term-item.is c.in_ok-push.ensures.items c.loop-term.invariant c.in_ok-copy.ensures
