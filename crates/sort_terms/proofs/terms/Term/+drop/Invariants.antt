use Rattle.std.proofs.Common.{◌<◌}
use Rattle.sort_terms.specs.TermSize.{size_of, sizes_of}
use Rattle.sort_terms.proofs.terms.Term.+drop.Given as goal

-- fewer are left than the term has
abbrev pub invariant-loop-last : goal.invariant-loop-last
invariant-loop-last l = sizes_of l.left.items < size_of l.fn.self

abbrev pub decreases-loop-last : goal.decreases-loop-last
decreases-loop-last l = sizes_of l.left.items
