use Rattle.std.proofs.Common.{◌≡◌, ◌++◌, map, drop}
use Rattle.term_store.specs.declared.reading.Making.TheVariants.{Term}
use Rattle.term_store.proofs.reading.add_terms.Given as goal

abbrev pub invariant-loop-number : goal.invariant-loop-number
invariant-loop-number l = l.left.items ++ map Term (drop l.number-index l.numbers) ≡ l.initial.left.items ++ map Term l.numbers
