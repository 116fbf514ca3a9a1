use Rattle.std.proofs.Common.{◌≡◌, ◌≤◌, ◌++◌, drop, length}
use Rattle.value_lists.specs.FoundView.{found_for_each, shared_operations_in}
use Rattle.value_lists.specs.TrialView.{values_in}
use Rattle.value_lists.proofs.values.next_values.Given as goal

abbrev pub invariant-loop-number : goal.invariant-loop-number
invariant-loop-number l =
    (values_in l.found.items
    ++ found_for_each l.rules (values_in l.smaller.items) l.size l.number (drop l.number (shared_operations_in l.profiles))
    ≡ found_for_each l.rules (values_in l.smaller.items) l.size 0 (shared_operations_in l.profiles))
    × (length l.found.items ≤ l.room)
