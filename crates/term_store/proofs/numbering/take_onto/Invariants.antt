use Rattle.std.proofs.Common.{◌≡◌, ◌++◌, drop, reverse, take}
use Rattle.term_store.proofs.numbering.take_onto.Given as goal

abbrev pub invariant-loop-index : goal.invariant-loop-index
invariant-loop-index l = (l.numbers.items ≡ l.fn.numbers.items ++ take l._index (reverse l.fn.made.items))
    × (reverse l.made.items ≡ drop l._index (reverse l.fn.made.items))
