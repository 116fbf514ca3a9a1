-- The tables that the code's tables stand for.
use Rattle.std.specs.Prelude.{List, map}
use Rattle.std.proofs.Common.{Bor}
use Rattle.path_order.specs.Comparison.{ComparisonTable, ComparisonTables, table_leaf, table_node, compared_tables_of}
use Rattle.path_order.specs.declared.compared.Compared.{Compared, fold-Compared}
use Rattle.path_order.specs.declared.compared.Compared.TheOpen.{Compared-F}

-- one level, with each argument already seen as its table
abbrev pub compared_level : Compared-F ComparisonTable → ComparisonTable
compared_level (Compared-F.Leaf e g) = table_leaf e g
compared_level (Compared-F.Node e g cs) = table_node e g (compared_tables_of cs.items)

-- the table
abbrev pub compared_table_of : Compared → ComparisonTable
compared_table_of = fold-Compared ComparisonTable compared_level

-- the tables of a list
abbrev pub all_tables : List Compared → ComparisonTables
all_tables cs = compared_tables_of (map compared_table_of cs)

-- the table behind a reference
abbrev pub table_behind : Bor Compared → ComparisonTable
table_behind row = compared_table_of row.now

-- the tables behind references
abbrev pub tables_behind : List (Bor Compared) → List ComparisonTable
tables_behind rows = map table_behind rows
