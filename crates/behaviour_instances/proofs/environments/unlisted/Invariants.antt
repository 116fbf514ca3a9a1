use Rattle.std.proofs.Common.{◌≡◌, ◌++◌, drop}
use Rattle.term_match.specs.SubstView.{profiled_pairs}
use Rattle.behaviour_instances.specs.Unlisted.{unlisted_pairs}
use Rattle.behaviour_instances.proofs.environments.unlisted.Given as goal

abbrev pub invariant-loop-pair : goal.invariant-loop-pair
invariant-loop-pair l =
    profiled_pairs l.made.items ++ unlisted_pairs l.numbers (profiled_pairs (drop l.pair-index l.pair-items))
    ≡ unlisted_pairs l.numbers (profiled_pairs l.pair-items)
