use Rattle.std.proofs.Common.{List, sym, ◌∙◌, subst}
use Rattle.lotos_base.specs.Sorting.{AreGround}
use Rattle.lotos_base.specs.PlainView.{arguments_of}
use Rattle.lotos_base.specs.declared.plain.PlainTerm.{PlainTerm}
use Rattle.lotos_base.proofs.PlainLemmas.{ground_more, ground_at}
use Rattle.lotos_base.proofs.plain.+ground.Goals as goal

-- a term that is not ground
pub are_ground-returns-then-not-is_ground : goal.are_ground-returns-then-not-is_ground
are_ground-returns-then-not-is_ground t c = (
  (λ h. cc),
  (λ all. sym c.if-not-is_ground.true ∙ c.is_ground.ensures.1
      (ground_at c.deref-term-items.result.now c.loop-term.term-index c.term-item.result c.loop-term-test.true c.term-item.is
      (subst (λ (ts : List PlainTerm). AreGround (arguments_of ts)) (sym c.deref-term-items.ensures.value) all))),
)

pub are_ground-loop-term-preserved : goal.are_ground-loop-term-preserved
are_ground-loop-term-preserved t c =
    ground_more c.deref-term-items.result.now c.loop-term.term-index c.term-item.result c.loop-term-test.true c.term-item.is
    c.loop-term.invariant (c.is_ground.ensures.0 c.if-not-is_ground.false)
