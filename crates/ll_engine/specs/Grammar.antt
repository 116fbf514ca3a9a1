-- The grammar behind the code's rows, and what is known of the table beside them.
use Rattle.std.specs.Prelude.{ℕ, List}
use Rattle.ll_engine.specs.declared.grammar.Rows.{Rows}
use Rattle.ll_engine.specs.declared.grammar.Rows.TheVariants.{Checked, Written}
use Rattle.ll_engine.specs.Derivation.{Production}
use Rattle.ll_engine.specs.Language.{ContextFree}
use Rattle.ll_engine.specs.View.{productions}
use Rattle.ll_engine.specs.Checked.{IsChecked}
use Rattle.ll_engine.specs.WrittenTable.{written_productions, IsTableWritten}

abbrev pub productions_of : Rows → List Production
productions_of (Checked rows entries) = productions rows.items
productions_of (Written table) = written_productions table.now

abbrev pub viewed : Rows → ℕ → ℕ → ℕ → ContextFree
viewed rows parts tokens start = record { rows = productions_of rows; parts = parts; tokens = tokens; start = start }

abbrev pub IsTableOf : Rows → ContextFree → Type 0
IsTableOf (Checked rows entries) g = IsChecked g entries.items
IsTableOf (Written table) g = IsTableWritten g table.now
