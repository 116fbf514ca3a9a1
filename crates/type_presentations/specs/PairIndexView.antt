-- The pairs that are found by their old names.
use Rattle.std.specs.Prelude.{List, map}
use Rattle.syntax_trees.specs.WrittenItem.{WrittenPair}
use Rattle.syntax_trees.specs.TreeViews.{pair_of}
use Rattle.type_presentations.specs.declared.pair_index.PairIndex.{PairIndex}

-- the pairs in text order
abbrev pub pairs_in : PairIndex → List WrittenPair
pairs_in index = map pair_of index.pairs.now
