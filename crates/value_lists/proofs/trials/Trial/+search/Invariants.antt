use Rattle.std.proofs.Common.{◌≡◌, ◌*◌, ◌+◌, ◌-◌, ◌≤◌, ◌++◌, drop, length, map}
use Rattle.sort_terms.specs.TermView.{profiled_of}
use Rattle.value_lists.specs.TrialView.{found_next, sorts_behind, trial_sorts_of, trial_of, values_in}
use Rattle.value_lists.proofs.TrialLemmas.{found_among}
use Rattle.value_lists.proofs.trials.Trial.+search.Given as goal

abbrev pub decreases-search_behind : goal.decreases-search_behind
decreases-search_behind l = 2 * (length (trial_sorts_of l.self.now) - length l.chosen.now.items) + 1

abbrev pub decreases-search_with : goal.decreases-search_with
decreases-search_with l = 2 * (length (trial_sorts_of l.self.now) - length l.chosen.now.items)

abbrev pub invariant-search_behind-loop-value : goal.invariant-search_behind-loop-value
invariant-search_behind-loop-value l =
    (l.chosen.items ≡ l.fn.chosen.items)
    × (values_in l.found.items
    ++ found_among (trial_of l.self) (map profiled_of l.fn.chosen.items) (sorts_behind l.self l.fn.chosen.items) l.left
    (values_in (drop l.value-index l.value-items))
    ≡ values_in l.fn.found.items ++ found_next l.self l.fn.chosen.items l.left)
    × (length l.found.items ≤ l.self.room)
