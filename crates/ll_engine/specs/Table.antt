-- The entries of the table, by the tests of the rows.
use Rattle.std.specs.Prelude.{◌≡◌, ℕ, ◌+◌, ◌*◌, ◌/◌, ◌%◌, ◌<◌, ◌≤◌, ◌==◌, Bool, if◌then◌else◌, List, length, slice_index, Option, Some, None}
use Rattle.ll_engine.specs.declared.symbol.Row.{Row}
use Rattle.ll_engine.specs.declared.fault.TableFault.{TableFault}
use Rattle.ll_engine.specs.declared.fault.TableFault.TheVariants.{Barren, LeftCycle, Conflict, NoMemory}
use Rattle.ll_engine.specs.declared.table.TheConstants.{NO_ROW}
use Rattle.ll_engine.specs.Computed.{IsTableEntry, AreSeveral}

-- a fault says that two rows pass the test of a part and a token
abbrev pub IsConflictEntry : (Row → Bool) → List Row → ℕ → ℕ → TableFault → Type 0
IsConflictEntry test rows part token fault = (fault ≡ Conflict part token) × AreSeveral test rows

-- the columns of the table: one for each token and one for the end
abbrev pub width_of : ℕ → ℕ
width_of tokens = tokens + 1

-- the row that the entries name for the part and the token
abbrev pub row_of_entry : ℕ → Option ℕ
row_of_entry entry = if entry == NO_ROW then None else Some entry

abbrev pub entry_at : List ℕ → ℕ → ℕ → ℕ → Option ℕ
entry_at entries tokens part token = row_of_entry (slice_index entries (part * width_of tokens + token))

-- the first n entries are right
abbrev pub AreEntries : (ℕ → ℕ → Row → Bool) → List Row → ℕ → List ℕ → ℕ → Type 0
AreEntries test rows tokens table n =
    (cell : ℕ) → cell < n → IsTableEntry (test (cell / width_of tokens) (cell % width_of tokens)) rows (slice_index table cell)

pub record IsTable (test : ℕ → ℕ → Row → Bool) (rows : List Row) (parts tokens : ℕ) (table : List ℕ) : Type 0 where
  pub one_each : length table ≡ parts * width_of tokens
  pub entries : AreEntries test rows tokens table (parts * width_of tokens)

-- two rows pass the test of a part and a token, and every entry before that can be made
pub record IsFirstSeveral (test : ℕ → ℕ → Row → Bool) (rows : List Row) (parts tokens part token : ℕ) : Type 0 where
  pub part_in_range : part < parts
  pub token_in_range : token ≤ tokens
  pub several : AreSeveral (test part token) rows
  pub table : List ℕ
  pub entries_before : AreEntries test rows tokens table (part * width_of tokens + token)

abbrev pub IsTableFault : (ℕ → ℕ → Row → Bool) → List Row → ℕ → ℕ → TableFault → Type 0
IsTableFault test rows parts tokens (Barren part) = ⊥
IsTableFault test rows parts tokens (LeftCycle part) = ⊥
IsTableFault test rows parts tokens (Conflict part token) = IsFirstSeveral test rows parts tokens part token
IsTableFault test rows parts tokens NoMemory = Unit {0}
