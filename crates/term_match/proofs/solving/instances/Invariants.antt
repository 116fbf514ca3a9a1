use Rattle.std.proofs.Common.{◌≡◌, ◌++◌, drop}
use Rattle.term_match.specs.SubstView.{profiled_pairs, profiled_substitution_of}
use Rattle.term_match.specs.Solving.{instances_of_pairs}
use Rattle.term_match.proofs.solving.instances.Given as goal

abbrev pub invariant-loop-number : goal.invariant-loop-number
invariant-loop-number l =
    profiled_pairs l.made.items ++ instances_of_pairs (profiled_substitution_of l.one) (profiled_pairs (drop l.number-index l.pairs))
    ≡ instances_of_pairs (profiled_substitution_of l.one) (profiled_pairs l.pairs)
