use Rattle.scope_parts.specs.VisibleView.{visible_in}
use Rattle.behaviour_scopes.proofs.ResolverLemmas.{one_pushed}
use Rattle.behaviour_scopes.proofs.resolver.push_all.Goals as goal

pub loop-variable-preserved : goal.loop-variable-preserved
loop-variable-preserved c =
    one_pushed (visible_in c.args.visible.now) (visible_in c.loop-variable.visible) (visible_in c.push.new.self)
    c.deref-variable-items.result.now c.loop-variable.variable-index c.variable-item.result c.in_ok-copy.field-0
    c.loop-variable-test.true c.variable-item.is c.loop-variable.invariant c.in_ok-copy.ensures c.in_ok-push.ensures.added
