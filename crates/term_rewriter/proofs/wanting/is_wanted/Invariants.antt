use Rattle.std.proofs.Common.{◌≡◌, drop}
use Rattle.term_rewriter.specs.Wanted.{is_wanted_in}
use Rattle.term_rewriter.proofs.wanting.is_wanted.Given as goal

abbrev pub invariant-loop-known : goal.invariant-loop-known
invariant-loop-known l = is_wanted_in l.wanted l.number ≡ is_wanted_in (drop l.known-index l.wanted) l.number
