use Rattle.sort_terms.specs.TermView.{profiled_of}
use Rattle.term_rewriter.proofs.FirstLemmas.{AreTried}
use Rattle.term_rewriter.proofs.first_match.first_match.Given as goal

abbrev pub invariant-loop-number : goal.invariant-loop-number
invariant-loop-number l = AreTried l.rules (profiled_of l.term) l.candidates l.number-index
