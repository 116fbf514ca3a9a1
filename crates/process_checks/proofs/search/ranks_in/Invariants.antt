use Rattle.std.proofs.Common.{◌≡◌, ◌++◌, map, drop}
use Rattle.process_checks.specs.Search.{rank_of}
use Rattle.process_checks.proofs.search.ranks_in.Given as goal

abbrev pub invariant-loop-known : goal.invariant-loop-known
invariant-loop-known l = l.made.items ++ map rank_of (drop l.known-index l.known-items) ≡ map rank_of l.known-items
