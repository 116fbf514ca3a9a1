-- A row of the grammar with its name.
use Rattle.std.specs.Prelude.{ℕ, List}
use Rattle.ll_engine.specs.declared.symbol.Symbol.{Symbol}
use Rattle.ll_engine.specs.Derivation.{Production}
use Rattle.lotos_rows.specs.declared.row_names.RowName.{RowName}

pub record GrammarRow : Type 0 where
  pub name : RowName
  pub production : Production

abbrev pub row_of : RowName → ℕ → List Symbol → GrammarRow
row_of name left right = record { name = name; production = record { left = left; right = right } }
