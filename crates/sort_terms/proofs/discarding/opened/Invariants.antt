use Rattle.std.proofs.Common.{◌≡◌, ◌+◌}
use Rattle.sort_terms.specs.TermSize.{size_of, sizes_of}
use Rattle.sort_terms.proofs.discarding.opened.Given as goal

-- all are there
abbrev pub invariant-loop-next : goal.invariant-loop-next
invariant-loop-next l = size_of l.first + sizes_of l.others.items ≡ size_of l.fn.first + sizes_of l.fn.others.items

abbrev pub decreases-loop-next : goal.decreases-loop-next
decreases-loop-next l = size_of l.first
