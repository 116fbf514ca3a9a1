use Rattle.std.proofs.Common.{◌≡◌, ◌++◌, drop}
use Rattle.path_order.specs.RuleView.{numbered_rules}
use Rattle.path_order.specs.RuleSides.{all_sides}
use Rattle.path_order.proofs.rule.rule_copies.Given as goal

abbrev pub invariant-loop-rule : goal.invariant-loop-rule
invariant-loop-rule l =
    (numbered_rules l.made.items ++ numbered_rules (drop l.rule-index l.rule-items) ≡ numbered_rules l.rule-items)
    × (all_sides l.made.items ++ all_sides (drop l.rule-index l.rule-items) ≡ all_sides l.rule-items)
