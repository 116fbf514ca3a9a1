use Rattle.std.proofs.Common.{◌≡◌, ◌++◌, length, map}
use Rattle.sort_terms.specs.TermView.{profiled_of}
use Rattle.sort_terms.specs.MadeTerms.{made_of}
use Rattle.sort_terms.proofs.copying.taken.Given as goal

abbrev pub invariant-loop-index : goal.invariant-loop-index
invariant-loop-index l = (length l.terms.items ≡ l._index)
    × (made_of l.initial.made.items ≡ map profiled_of l.terms.items ++ made_of l.made.items)
