use Rattle.std.proofs.Common.{◌≡◌, ◌++◌, drop}
use Rattle.term_match.specs.SubstView.{profiled_pairs}
use Rattle.draft_parts.proofs.environments.extended.Given as goal

abbrev pub invariant-loop-pair : goal.invariant-loop-pair
invariant-loop-pair l =
    profiled_pairs l.made.items ++ profiled_pairs (drop l.pair-index l.pair-items)
    ≡ profiled_pairs l.fn.pairs.items ++ profiled_pairs l.pair-items
