use Rattle.std.proofs.Common.{List, subst}
use Rattle.sort_terms.specs.declared.sorted.Sorted.{Sorted}
use Rattle.event_offers.specs.OfferView.{condition_profiles, conditions_of}
use Rattle.event_offers.specs.Offers.{AreConditionsOf}
use Rattle.draft_solving.proofs.SpreadLemmas.{condition_copied, condition_copied_of}
use Rattle.draft_solving.proofs.spreading.spread_conditions.Goals as goal

pub loop-condition-preserved : goal.loop-condition-preserved
loop-condition-preserved c = (
  condition_copied c.args.made.now.items c.loop-condition.made.items c.push.new.self.items
      (conditions_of c.deref-condition-items.result.now) c.deref-condition-items.result.now c.loop-condition.condition-index
      c.condition-item.result c.in_ok-left.left c.in_ok-right.right c.loop-condition-test.true c.condition-item.is
      c.in_ok-left.ensures c.in_ok-right.ensures c.in_ok-push.ensures.items c.loop-condition.invariant.0,
  λ signature old all.
      condition_copied_of signature c.loop-condition.made.items c.push.new.self.items c.deref-condition-items.result.now
      c.loop-condition.condition-index c.condition-item.result c.in_ok-left.left c.in_ok-right.right c.loop-condition-test.true
      c.condition-item.is c.in_ok-left.ensures c.in_ok-right.ensures c.in_ok-push.ensures.items
      (c.loop-condition.invariant.1 signature old all),
)

pub returns-clause-is_of : goal.returns-clause-is_of
returns-clause-is_of c = λ signature old.
    subst (λ (items : List (Sorted × Sorted)). AreConditionsOf signature (condition_profiles items)
    → AreConditionsOf signature (condition_profiles c.loop-condition.made.items))
    c.deref-condition-items.ensures.value (λ all. (c.loop-condition.invariant.1 signature old all).0)
