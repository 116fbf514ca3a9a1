use Rattle.std.proofs.Common.{◌+◌, ◌≤◌, ◌^◌, length, map, ap, sym, ◌∙◌, subst}
use Rattle.std.proofs.lemmas.Result.{IfOk-weaker, IfErr-weaker}
use Rattle.induct_parts.specs.CaseView.{pattern_in}
use Rattle.induct_parts.specs.CertificateView.{tree_in, trees_in, tree_line_of}
use Rattle.induct_parts.specs.SettingView.{setting_covers, theory_in}
use Rattle.induct_parts.proofs.PieceSteps.{tree_right, tree_wrong, second_tree}
use Rattle.induct_parts.proofs.trees.check_tree.Goals as goal

pub returns-then-has_tree-clause-wrong : goal.returns-then-has_tree-clause-wrong
returns-then-has_tree-clause-wrong c = λ data_ canon.
    second_tree (theory_in c.args.setting.now data_ canon) (setting_covers c.args.setting.now) (trees_in c.args.earlier.now)
    (tree_in c.args.tree.now) c.args.begin (sym c.has_tree.ensures ∙ c.if-has_tree.true)

pub deal-requires-clause-few : goal.deal-requires-clause-few
deal-requires-clause-few c = subst (λ ls. c.args.begin + 1 + length ls ≤ 2 ^ 32) (sym c.as_slice.ensures.value) c.requires.few

pub returns-clause-right : goal.returns-clause-right
returns-clause-right c =
    IfOk-weaker c.deal.result _ _
    (λ u deals data_ canon. tree_right (theory_in c.args.setting.now data_ canon) (setting_covers c.args.setting.now)
    (trees_in c.args.earlier.now) (tree_in c.args.tree.now) (pattern_in c.in_ok-pattern.pattern) (map tree_line_of c.as_slice.result.now)
    (sym c.has_tree.ensures ∙ c.if-has_tree.false) c.in_ok-pattern.ensures.first (ap (map tree_line_of) c.as_slice.ensures.value) deals)
    c.deal.ensures.right

pub returns-clause-wrong : goal.returns-clause-wrong
returns-clause-wrong c =
    IfErr-weaker c.deal.result _ _
    (λ at wrong data_ canon. tree_wrong (theory_in c.args.setting.now data_ canon) (setting_covers c.args.setting.now)
    (trees_in c.args.earlier.now) (tree_in c.args.tree.now) (pattern_in c.in_ok-pattern.pattern) (map tree_line_of c.as_slice.result.now)
    c.requires.operation.0 c.args.begin at.line at.fault (sym c.has_tree.ensures ∙ c.if-has_tree.false) c.in_ok-pattern.ensures.first
    c.requires.operation.1 (ap (map tree_line_of) c.as_slice.ensures.value) wrong)
    c.deal.ensures.wrong
