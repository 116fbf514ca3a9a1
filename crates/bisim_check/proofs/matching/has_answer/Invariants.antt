use Rattle.std.proofs.Common.{◌≡◌, ◌<◌, ℕ, map, Some, slice_get}
use Rattle.behaviour_tree.specs.DefinitionView.{specification_of}
use Rattle.bisim_check.specs.Events.{event_of}
use Rattle.bisim_check.specs.Matching.{Event, IsAnswer, ListedTowards}
use Rattle.bisim_check.specs.Readings.{listed_pairs_in}
use Rattle.bisim_check.proofs.matching.has_answer.Given as goal

abbrev pub invariant-loop-position : goal.invariant-loop-position
invariant-loop-position l =
    (k : ℕ) (answer : Event) → k < l.position → slice_get (map event_of l.answers.items) k ≡ Some answer
    → IsAnswer (specification_of l.one) (specification_of l.other) (ListedTowards l.right (listed_pairs_in l.reading)) (event_of l.event)
    answer → ⊥
