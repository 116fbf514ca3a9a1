use Rattle.std.proofs.Common.{◌≡◌, drop}
use Rattle.value_lists.specs.InstanceList.{profiled_lists_in}
use Rattle.value_lists.specs.TupleNumbers.{has_empty}
use Rattle.value_lists.proofs.tuples.some_is_empty.Given as goal

abbrev pub invariant-loop-choice : goal.invariant-loop-choice
invariant-loop-choice l = has_empty (drop l.choice-index (profiled_lists_in l.choices)) ≡ has_empty (profiled_lists_in l.choices)
