use Rattle.std.proofs.Common.{arith, ap, sym, ◌∙◌, ◌≡◌, length}
use Rattle.std.specs.List.{list_all}
use Rattle.lotos_base.proofs.Pieces.{take_whole}
use Rattle.sort_terms.specs.TermView.{term_of}
use Rattle.sort_terms.specs.declared.terms.Term.{Term}
use Rattle.term_store.specs.Heads.{has_head_bit}
use Rattle.term_store.proofs.HeadLemmas.{one_more_rule, plain_bits, rule_has_bit}
use Rattle.term_store.proofs.heads.heads_of.Goals as goal

pub loop-rule-preserved : goal.loop-rule-preserved
loop-rule-preserved c =
    one_more_rule c.loop-rule.heads c.head_of-heads.result c.loop-rule.rule-index c.list-rule-items.result.now c.rule-item.result
    c.loop-rule-test.true c.rule-item.is c.loop-rule.invariant
    (ap (λ (t : Term). has_head_bit c.head_of-heads.result (term_of t)) (sym c.term.ensures) ∙ c.head_of-heads.ensures)

pub returns : goal.returns
returns c =
    let xs = c.list-rule-items.result.now in
    let all : c.loop-rule.rule-index ≡ length xs = omega (arith, c.loop-rule-test.false) in
    plain_bits c.loop-rule.heads c.args.rules.now.rules.items
    (ap (list_all (rule_has_bit c.loop-rule.heads)) (sym c.list-rule-items.ensures ∙ sym (take_whole xs c.loop-rule.rule-index all))
    ∙ c.loop-rule.invariant)
