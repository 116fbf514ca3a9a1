use Rattle.path_order.proofs.RuleLemmas.{empty_more, length_more}
use Rattle.path_order.proofs.head_index.HeadIndex.new.Goals as goal

pub loop-preserved : goal.loop-preserved
loop-preserved c = (
  λ f. empty_more c.loop.numbers.items _ _ c.in_ok-push.ensures.items c.new.ensures.items c.loop.invariant.0 f,
  length_more c.loop.numbers.items _ _ c.loop.counter c.in_ok-push.ensures.items c.loop.invariant.1,
)
