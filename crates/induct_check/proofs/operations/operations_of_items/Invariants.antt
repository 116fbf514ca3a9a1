use Rattle.std.proofs.Common.{drop, map}
use Rattle.lotos_base.specs.WrittenView.{listed_operation_of}
use Rattle.induct_check.specs.KnownView.{known_signature}
use Rattle.induct_check.proofs.ItemLemmas.{ListsOn}
use Rattle.induct_check.proofs.operations.operations_of_items.Given as goal

abbrev pub invariant-loop-item : goal.invariant-loop-item
invariant-loop-item l =
    ListsOn (known_signature l.known) (map listed_operation_of l.items) (map listed_operation_of (drop l.item-index l.items)) l.made.items
