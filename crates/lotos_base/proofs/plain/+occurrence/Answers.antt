use Rattle.std.proofs.Common.{◌≡◌, List, true, false, refl, sym, ◌∙◌, subst}
use Rattle.lotos_base.specs.Sorting.{OccursAmong}
use Rattle.lotos_base.specs.PlainView.{arguments_of}
use Rattle.lotos_base.specs.declared.plain.PlainTerm.{PlainTerm}
use Rattle.lotos_base.proofs.PlainLemmas.{none_more, occurs_at}
use Rattle.lotos_base.proofs.plain.+occurrence.Goals as goal

-- a term that the variable occurs in
pub any_has_variable-returns-then-has_variable : goal.any_has_variable-returns-then-has_variable
any_has_variable-returns-then-has_variable t c = (
  (λ h. subst (λ (ts : List PlainTerm). OccursAmong c.args.number c.args.sort (arguments_of ts)) c.deref-term-items.ensures.value
      (occurs_at c.args.number c.args.sort c.deref-term-items.result.now c.loop-term.term-index c.term-item.result c.loop-term-test.true
      c.term-item.is (c.has_variable.ensures.0 c.if-has_variable.true))),
  (λ o. refl),
)

pub any_has_variable-loop-term-preserved : goal.any_has_variable-loop-term-preserved
any_has_variable-loop-term-preserved t c =
    none_more c.args.number c.args.sort c.deref-term-items.result.now c.loop-term.term-index c.term-item.result c.loop-term-test.true
    c.term-item.is c.loop-term.invariant
    (λ o. let yes : true ≡ false = sym (c.has_variable.ensures.1 o) ∙ c.if-has_variable.false in cc)
