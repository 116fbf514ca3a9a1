use Rattle.std.proofs.Common.{◌≡◌, ◌++◌, map, drop}
use Rattle.sort_terms.specs.Operations.{operation_of}
use Rattle.term_store.proofs.reading.profiles_of.Given as goal

abbrev pub invariant-loop-op : goal.invariant-loop-op
invariant-loop-op l = map (λ p. operation_of p.value) l.made.items ++ map operation_of (drop l.op-index l.ops) ≡ map operation_of l.ops
