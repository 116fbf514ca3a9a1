-- The tables that counted terms stand for.
use Rattle.std.specs.Prelude.{List, [], ◌∷◌, map}
use Rattle.sort_terms.specs.ChoicesView.{choice_at}
use Rattle.sort_terms.specs.Tables.{Table, Tables, table, no_tables, table_then}
use Rattle.sort_terms.specs.declared.counted.Counted.{Counted, fold-Counted}
use Rattle.sort_terms.specs.declared.counted.Counted.TheOpen.{Counted-F}

abbrev pub tables : List Table → Tables
tables [] = no_tables
tables (t ∷ ts) = table_then t (tables ts)

-- one level, whose arguments are seen already
abbrev pub table_level : Counted-F Table → Table
table_level counted = table (choice_at counted.choices) (tables counted.arguments.items)

abbrev pub table_of : Counted → Table
table_of = fold-Counted Table table_level

abbrev pub tables_of : List Counted → Tables
tables_of counted = tables (map table_of counted)
