use Rattle.std.proofs.Common.{◌≡◌, ℕ, List, map, take}
use Rattle.lotos_base.specs.Name.{spelling}
use Rattle.sort_terms.specs.NameIndex.{numbers_under}
use Rattle.sort_terms.specs.Positions.{positions_of}
use Rattle.sort_terms.specs.declared.operations.Sort.{Sort}
use Rattle.sort_terms.proofs.reader.indexed_sorts.Given as goal

abbrev pub invariant-loop-number : goal.invariant-loop-number
invariant-loop-number l = (key : List ℕ)
    → numbers_under l.index key ≡ positions_of key (map (λ (x : Sort). spelling x.name) (take l.number l.sorts))
