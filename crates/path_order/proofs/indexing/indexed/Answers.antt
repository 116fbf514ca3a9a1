use Rattle.std.proofs.Common.{◌≤◌, ◌++◌, ℕ, List, length, sym, ap, ◌∙◌, subst, arith}
use Rattle.sort_terms.specs.SortedView.{term_in}
use Rattle.sort_terms.specs.declared.operations.Op.{Op}
use Rattle.path_order.specs.HeadBelow.{IsHeadBelow}
use Rattle.path_order.specs.RuleHead.{headed_from}
use Rattle.path_order.specs.RuleView.{plain_rules}
use Rattle.path_order.proofs.RuleLemmas.{headed_more, headed_end, rule_head_below}
use Rattle.path_order.proofs.indexing.indexed.Goals as goal

pub add-requires : goal.add-requires
add-requires c =
    subst (λ (n : ℕ). IsHeadBelow n (term_in c.index.result.now.left)) (sym c.loop-number.invariant.1)
    (rule_head_below c.args.signature.now c.args.rules.now.items c.loop-number.number c.index.result.now c.requires (omega arith)
    c.index.ensures)

pub loop-number-init : goal.loop-number-init
loop-number-init c = (
  λ f. ap (λ (ns : List ℕ). ns ++ headed_from f 0 (plain_rules c.args.rules.now.items)) (c.in_ok-made.ensures.empty f),
  c.in_ok-made.ensures.room ∙ ap (λ (ops : List Op). length ops) c.ops.ensures,
)

pub loop-number-preserved : goal.loop-number-preserved
loop-number-preserved c = (
  λ f. headed_more f c.loop-number.number c.args.rules.now.items c.index.result.now _ _ _ (omega arith) c.index.ensures
      (c.in_ok-add.ensures.added f) (c.loop-number.invariant.0 f),
  c.in_ok-add.ensures.room ∙ c.loop-number.invariant.1,
)

pub returns : goal.returns
returns c = λ f.
    let past : length c.args.rules.now.items ≤ c.loop-number.number = omega arith in
    headed_end f c.loop-number.number c.args.rules.now.items _ _ past (c.loop-number.invariant.0 f)
