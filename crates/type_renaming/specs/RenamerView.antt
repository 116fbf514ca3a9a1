-- What the code renames by.
use Rattle.std.specs.Prelude.{ℕ, List, []}
use Rattle.lotos_base.specs.Name.{spelling}
use Rattle.syntax_trees.specs.WrittenItem.{WrittenPairs}
use Rattle.type_presentations.specs.PairIndexView.{pairs_in}
use Rattle.type_renaming.specs.declared.renamer.Renamer.{Renamer}

-- the name of the type
abbrev pub type_name_in : Renamer → List ℕ
type_name_in renamer = spelling renamer.type_name.now

-- its pairs, as those of sorts
abbrev pub sort_pairs_in : Renamer → WrittenPairs
sort_pairs_in renamer = record { sort_pairs = pairs_in renamer.pairs; operation_pairs = [] }

-- its pairs, as those of operations
abbrev pub operation_pairs_in : Renamer → WrittenPairs
operation_pairs_in renamer = record { sort_pairs = []; operation_pairs = pairs_in renamer.pairs }
