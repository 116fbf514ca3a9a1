use Rattle.std.proofs.Common.{◌≡◌, ◌++◌, drop, map}
use Rattle.sort_terms.specs.TermView.{profiled_of}
use Rattle.term_match.proofs.paths.with_copies.Given as goal

abbrev pub invariant-loop-term : goal.invariant-loop-term
invariant-loop-term l =
    map profiled_of l.made.items ++ map profiled_of (drop l.term-index l.terms) ≡ map profiled_of l.fn.made.items ++ map profiled_of l.terms
