use Rattle.std.proofs.Common.{◌≡◌, ◌*◌, ◌<◌, ◌≤◌, drop}
use Rattle.value_lists.specs.InstanceList.{profiled_lists_in}
use Rattle.value_lists.specs.Tuples.{tuple_count}
use Rattle.value_lists.specs.declared.limits.TheConstants.{MAX_INSTANCES}
use Rattle.value_lists.proofs.tuples.count.Given as goal

abbrev pub invariant-loop-choice : goal.invariant-loop-choice
invariant-loop-choice l =
    (l.count * tuple_count (drop l.choice-index (profiled_lists_in l.choices)) ≡ tuple_count (profiled_lists_in l.choices))
    × (0 < l.count) × (l.count ≤ MAX_INSTANCES)
