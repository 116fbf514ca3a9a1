use Rattle.demo_walks.proofs.TextLemmas.{once_more}
use Rattle.demo_walks.proofs.texts.push_repeated.Goals as goal

pub loop-preserved : goal.loop-preserved
loop-preserved c = once_more _ _ _ _ c.loop.counter c.loop.invariant c.in_ok-push_text.ensures
