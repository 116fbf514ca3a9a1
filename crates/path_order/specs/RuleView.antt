-- The rules that rules of the code stand for.
use Rattle.std.specs.Prelude.{List, map}
use Rattle.rewriting_theory.specs.Rule.{Rule as PlainRule}
use Rattle.sort_terms.specs.SortedView.{term_in}
use Rattle.rewriting_theory.specs.Orientation.{NumberedRule, rules_of}
use Rattle.path_order.specs.declared.rule.Rule.{Rule}

-- the rule without its number
abbrev pub rule_of : Rule → PlainRule
rule_of rule = record { left = term_in rule.left; right = term_in rule.right }

-- the rule with the number of its equation
abbrev pub numbered_rule_of : Rule → NumberedRule
numbered_rule_of rule = record { equation = rule.equation; rule = rule_of rule }

-- the rules with the numbers of their equations, in their order
abbrev pub numbered_rules : List Rule → List NumberedRule
numbered_rules rules = map numbered_rule_of rules

-- the rules without the numbers
abbrev pub plain_rules : List Rule → List PlainRule
plain_rules rules = rules_of (numbered_rules rules)
