use Rattle.lotos_base.specs.Substitution.{binding}
use Rattle.lotos_base.specs.PlainView.{pairs_of_values}
use Rattle.lotos_base.proofs.PlainLemmas.{instances_more}
use Rattle.lotos_base.proofs.plain.+instance.Goals as goal

pub instances-loop-term-preserved : goal.instances-loop-term-preserved
instances-loop-term-preserved t c =
    instances_more (binding (pairs_of_values c.args.values.now)) c.deref-term-items.result.now c.loop-term.made.items c.push.new.self.items
    c.loop-term.term-index c.term-item.result c.in_ok-instance.field-0
    c.loop-term-test.true c.term-item.is c.in_ok-push.ensures.items c.loop-term.invariant c.in_ok-instance.ensures
