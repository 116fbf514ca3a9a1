use Rattle.std.proofs.Common.{◌<◌, take}
use Rattle.path_order.specs.RulesView.{plain_rules_in}
use Rattle.rewriting_theory.specs.Rewriting.{IsNormal}
use Rattle.sort_terms.specs.SignatureView.{signature_of}
use Rattle.value_lists.specs.InstanceList.{AreChoices, term_lists_of, profiled_lists_in}
use Rattle.value_lists.specs.ValueList.{AreValueLists, HasUpToValues}
use Rattle.value_lists.specs.declared.limits.TheConstants.{MAX_VALUES}
use Rattle.value_lists.proofs.choices.values_of_each.Given as goal

abbrev pub invariant-loop-sort : goal.invariant-loop-sort
invariant-loop-sort l =
    AreValueLists (signature_of l.signature) (IsNormal (plain_rules_in l.rules)) l.size (take l.sort-index l.sort-items)
    (term_lists_of l.lists.items)
    × AreChoices (signature_of l.signature) (take l.sort-index l.sort-items) (profiled_lists_in l.lists.items)
    × (0 < l.sort-index → HasUpToValues (signature_of l.signature) (IsNormal (plain_rules_in l.rules)) l.size MAX_VALUES)
