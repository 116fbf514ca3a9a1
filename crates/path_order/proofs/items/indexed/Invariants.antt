use Rattle.std.proofs.Common.{◌≡◌, ℕ, List, map, take}
use Rattle.lotos_base.specs.Name.{spelling}
use Rattle.sort_terms.specs.NameIndex.{numbers_under}
use Rattle.sort_terms.specs.Positions.{positions_of}
use Rattle.sort_terms.specs.declared.operations.Op.{Op}
use Rattle.path_order.proofs.items.indexed.Given as goal

abbrev pub invariant-loop-number : goal.invariant-loop-number
invariant-loop-number l = (key : List ℕ)
    → numbers_under l.made key ≡ positions_of key (map (λ (x : Op). spelling x.name) (take l.number l.ops))
