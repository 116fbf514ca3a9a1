use Rattle.std.proofs.Common.{◌≡◌, ◌++◌, map, drop}
use Rattle.sort_terms.specs.Operations.{sort_of}
use Rattle.type_equations.proofs.signatures.sort_copies.Given as goal

abbrev pub invariant-loop-sort : goal.invariant-loop-sort
invariant-loop-sort l = map sort_of l.made.items ++ map sort_of (drop l.sort-index l.sorts) ≡ map sort_of l.sorts
