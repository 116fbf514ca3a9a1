use Rattle.std.proofs.Common.{◌≤◌, ◌-◌, length, take}
use Rattle.rewriting_theory.specs.Places.{places_with}
use Rattle.rewriting_theory.specs.Rule.{Rule as PlainRule, IsRuleAt}
use Rattle.path_order.specs.RulesView.{plain_rules_in}
use Rattle.critical_pairs.specs.Extended.{AddsPairsOf}
use Rattle.critical_pairs.proofs.listing.pairs_of_first.Given as goal

abbrev pub invariant-loop-second : goal.invariant-loop-second
invariant-loop-second l = record {
  within : l.next ≤ length l.rules.rules.items;
  listed : (rule : PlainRule) → IsRuleAt (plain_rules_in l.rules) l.first rule
      → AddsPairsOf l.rules (places_with l.first rule 0 (take l.next (plain_rules_in l.rules))) l.fn.found.items l.found.items;
}

abbrev pub decreases-loop-second : goal.decreases-loop-second
decreases-loop-second l = length l.rules.rules.items - l.next
