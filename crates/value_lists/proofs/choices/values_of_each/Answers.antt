-- Each sort gets its list, behind the others.
use Rattle.path_order.specs.RulesView.{plain_rules_in}
use Rattle.rewriting_theory.specs.Rewriting.{IsNormal}
use Rattle.sort_terms.specs.SignatureView.{signature_of}
use Rattle.value_lists.proofs.ChoiceLemmas.{choice_added, list_added}
use Rattle.value_lists.proofs.choices.values_of_each.Goals as goal

pub loop-sort-preserved : goal.loop-sort-preserved
loop-sort-preserved c = (
  list_added (signature_of c.args.signature.now) (IsNormal (plain_rules_in c.args.rules.now)) c.args.size c.deref-sort-items.result.now
      c.loop-sort.sort-index _ c.loop-sort.lists.items c.push.new.self.items c.in_ok-values.values c.loop-sort-test.true
      c.loop-sort.invariant.0 c.in_ok-values.ensures.list c.in_ok-push.ensures.items,
  choice_added (signature_of c.args.signature.now) c.deref-sort-items.result.now c.loop-sort.sort-index _ c.loop-sort.lists.items
      c.push.new.self.items c.in_ok-values.values c.loop-sort-test.true c.loop-sort.invariant.1 c.in_ok-values.ensures.choices
      c.in_ok-push.ensures.items,
  λ some. c.in_ok-values.ensures.few,
)
