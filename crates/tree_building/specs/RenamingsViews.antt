-- The plain values of what the parts of renamings are built into.
use Rattle.syntax_trees.specs.TreeViews.{pair_of}
use Rattle.syntax_trees.specs.WrittenItem.{WrittenPairs}
use Rattle.tree_building.specs.declared.renamings_values.BothPairs.{BothPairs}
use Rattle.lotos_rows.specs.HandedOn.{from_last}

abbrev pub both_pairs_of : BothPairs → WrittenPairs
both_pairs_of both = record { sort_pairs = from_last pair_of both.sorts.items; operation_pairs = from_last pair_of both.operations.items }
