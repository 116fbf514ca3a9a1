use Rattle.std.proofs.Common.{List, subst}
use Rattle.sort_terms.specs.declared.sorted.Sorted.{Sorted}
use Rattle.behaviour_tree.specs.BehaviourTerms.{profiles_of}
use Rattle.behaviour_tree.specs.Over.{AreTermsOf}
use Rattle.event_offers.specs.OfferView.{condition_profiles}
use Rattle.event_offers.specs.Offers.{AreConditionsOf}
use Rattle.draft_solving.proofs.SpreadLemmas.{selves, term_copied, term_copied_of}
use Rattle.draft_solving.proofs.spreading.spread_terms.Goals as goal

pub loop-term-preserved : goal.loop-term-preserved
loop-term-preserved c = (
  term_copied c.args.made.now.items c.loop-term.made.items c.push.new.self.items (selves c.deref-term-items.result.now)
      c.deref-term-items.result.now c.loop-term.term-index c.term-item.result c.in_ok-left.left c.in_ok-right.right
      c.loop-term-test.true c.term-item.is c.in_ok-left.ensures c.in_ok-right.ensures c.in_ok-push.ensures.items
      c.loop-term.invariant.0,
  λ signature old all.
      term_copied_of signature c.loop-term.made.items c.push.new.self.items c.deref-term-items.result.now c.loop-term.term-index
      c.term-item.result c.in_ok-left.left c.in_ok-right.right c.loop-term-test.true c.term-item.is c.in_ok-left.ensures
      c.in_ok-right.ensures c.in_ok-push.ensures.items (c.loop-term.invariant.1 signature old all),
)

pub returns-clause-is_of : goal.returns-clause-is_of
returns-clause-is_of c = λ signature old.
    subst (λ (items : List Sorted). AreTermsOf signature (profiles_of items)
    → AreConditionsOf signature (condition_profiles c.loop-term.made.items))
    c.deref-term-items.ensures.value (λ all. (c.loop-term.invariant.1 signature old all).0)
