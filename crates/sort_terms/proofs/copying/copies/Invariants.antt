use Rattle.std.proofs.Common.{◌≡◌, take}
use Rattle.sort_terms.specs.TermView.{all_profiled}
use Rattle.sort_terms.proofs.copying.copies.Given as goal

abbrev pub invariant-loop-term : goal.invariant-loop-term
invariant-loop-term l = all_profiled l.made.items ≡ all_profiled (take l.term-index l.term-items)
