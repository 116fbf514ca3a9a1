use Rattle.std.proofs.Common.{◌≡◌, ◌<◌, ◌++◌, drop}
use Rattle.behaviour_tree.specs.BehaviourTerms.{profiles_of}
use Rattle.sort_terms.specs.ProfiledTerm.{profiled_variable}
use Rattle.value_lists.specs.InstanceList.{profiled_lists_in}
use Rattle.value_lists.specs.TupleNumbers.{tuple_at}
use Rattle.value_lists.specs.Tuples.{tuple_count}
use Rattle.value_lists.proofs.tuples.tuple.Given as goal

abbrev pub invariant-loop-choice : goal.invariant-loop-choice
invariant-loop-choice l =
    (l.rest ≡ tuple_count (drop l.choice-index (profiled_lists_in l.choices))) × (l.place < l.rest)
    × (profiles_of l.tuple.items ++ tuple_at (drop l.choice-index (profiled_lists_in l.choices)) l.place (profiled_variable 0 0)
    ≡ tuple_at (profiled_lists_in l.choices) l.number (profiled_variable 0 0))
