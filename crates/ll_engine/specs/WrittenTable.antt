-- Tables that stand written: which row of a part the table names for a token, and the test that a table names the right ones.
use Rattle.std.specs.Prelude.{◌≡◌, ℕ, ◌+◌, ◌<◌, ◌≤◌, Bool, true, false, ◌&&◌, ◌==◌, nat_lt, nat_le, if◌then◌else◌, List, [], ◌∷◌, Option, Some, None, length, drop, map, slice_get, slice_index_or}
use Rattle.std.specs.List.{list_all}
use Rattle.std.specs.Int.{bit_at}
use Rattle.ll_engine.specs.declared.written.WrittenRow.{WrittenRow}
use Rattle.ll_engine.specs.declared.written.WrittenTable.{WrittenTable}
use Rattle.ll_engine.specs.Derivation.{Production}
use Rattle.ll_engine.specs.Language.{ContextFree}
use Rattle.ll_engine.specs.Prediction.{IsPredictedBy, IsPredictive}
use Rattle.ll_engine.specs.PredictionSets.{Sets, predicting, PartSets, sets_of, are_kept, known_after}
use Rattle.ll_engine.specs.View.{is_well_formed}

abbrev pub written_production : WrittenRow → Production
written_production row = record { left = row.left; right = row.right.now }

abbrev pub written_productions : WrittenTable → List Production
written_productions table = map written_production table.rows.now

-- the grammar of a written table and a start part
abbrev pub written_grammar : WrittenTable → ℕ → ContextFree
written_grammar table start =
    record { rows = written_productions table; parts = length table.first_rows.now; tokens = table.tokens; start = start }

-- whether the row names the token, or the end
abbrev pub is_named : WrittenRow → ℕ → Bool
is_named row token = bit_at row.predicted_by token == 1

-- the row of the part that names the token, where these rows begin with those of the part; the first has this number
abbrev pub row_among : List WrittenRow → ℕ → ℕ → ℕ → Option ℕ
row_among [] number part token = None
row_among (row ∷ rows) number part token =
    if row.left == part then (if is_named row token then Some number else row_among rows (number + 1) part token) else None

abbrev pub first_row : WrittenTable → ℕ → ℕ
first_row table part = slice_index_or table.first_rows.now part 0

-- the row of the part that the table names for the token
abbrev pub row_at : WrittenTable → ℕ → ℕ → Option ℕ
row_at table part token = row_among (drop (first_row table part) table.rows.now) (first_row table part) part token

-- A written table of a grammar that one token ahead decides: it names each row for each token that predicts it, and for the
-- end where that does.
pub record IsTableWritten (g : ContextFree) (table : WrittenTable) : Type 0 where
  pub well_formed : is_well_formed g ≡ true
  pub predictive : IsPredictive g
  pub one_each : length table.first_rows.now ≡ g.parts
  pub few_tokens : g.tokens < 64
  pub few_rows : length table.rows.now < 2147483648
  pub few_parts : length table.first_rows.now < 65536
  pub first_rows : (part : ℕ) → part < g.parts → first_row table part ≤ length table.rows.now
  pub named_rows : (token number : ℕ) (row : Production) → token ≤ g.tokens → slice_get g.rows number ≡ Some row →
      IsPredictedBy g row token → row_at table row.left token ≡ Some number

-- the test
abbrev pub is_found_number : ℕ → Option ℕ → Bool
is_found_number number None = false
is_found_number number (Some found) = found == number

abbrev pub all_named : List WrittenRow → ℕ → ℕ → ℕ → List ℕ → Bool
all_named rows first part number tokens = list_all (λ token. is_found_number number (row_among rows first part token)) tokens

abbrev pub names_its_rows : WrittenTable → Sets → ℕ → List Production → Bool
names_its_rows table sets number [] = true
names_its_rows table sets number (row ∷ rows) =
    all_named (drop (first_row table row.left) table.rows.now) (first_row table row.left) row.left number (predicting sets row)
    && names_its_rows table sets (number + 1) rows

abbrev pub is_kept_and_named : WrittenTable → ContextFree → List PartSets → Bool
is_kept_and_named table g known = are_kept g known && names_its_rows table (sets_of known) 0 g.rows

-- the numbers of rows and parts have room, and each part's first row is there
abbrev pub is_sized : WrittenTable → Bool
is_sized table =
    (nat_lt table.tokens 64 && (nat_lt (length table.rows.now) 2147483648 && nat_lt (length table.first_rows.now) 65536))
    && list_all (λ first. nat_le first (length table.rows.now)) table.first_rows.now

-- the table names the right rows of the part for each token, by what is known of the parts after so many rounds
abbrev pub is_written_after : ℕ → WrittenTable → ℕ → Bool
is_written_after n table start =
    (is_well_formed (written_grammar table start) && is_sized table)
    && is_kept_and_named table (written_grammar table start) (known_after n (written_grammar table start))

-- A table that passes the test is a written table.
abbrev pub TestedTablesAreWritten : Type 0
TestedTablesAreWritten =
    (n : ℕ) (table : WrittenTable) (start : ℕ) → is_written_after n table start ≡ true → IsTableWritten (written_grammar table start) table
