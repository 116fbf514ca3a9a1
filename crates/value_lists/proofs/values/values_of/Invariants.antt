use Rattle.std.proofs.Common.{◌≡◌, ◌≤◌, length}
use Rattle.path_order.specs.RulesView.{plain_rules_in}
use Rattle.sort_terms.specs.SignatureView.{signature_of}
use Rattle.value_lists.specs.FoundView.{kept_by}
use Rattle.value_lists.specs.Search.{found_up_to}
use Rattle.value_lists.specs.TrialView.{values_in}
use Rattle.value_lists.specs.declared.limits.TheConstants.{MAX_VALUES}
use Rattle.value_lists.proofs.values.values_of.Given as goal

abbrev pub invariant-loop-smaller : goal.invariant-loop-smaller
invariant-loop-smaller l =
    (values_in l.values.items ≡ found_up_to (kept_by l.rules) (signature_of l.signature).operations l.smaller)
    × (length l.values.items ≤ MAX_VALUES)
