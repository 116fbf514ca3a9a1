-- The tests that fill the table: what the functions compute, over plain lists. What they mean is said by derivations in
-- `Prediction`; the proofs show that both agree.
use Rattle.std.specs.Prelude.{◌≡◌, ◌≢◌, ℕ, zero, suc, ◌+◌, ◌*◌, ◌==◌, Bool, true, false, ◌&&◌, ◌||◌, List, [], ◌∷◌, nat_lt, slice_index_or, slice_get, Option, Some, None, ◌<◌}
use Rattle.std.specs.List.{list_any}
use Rattle.ll_engine.specs.declared.symbol.Symbol.{Symbol}
use Rattle.ll_engine.specs.declared.symbol.Symbol.TheVariants.{Token, Part}
use Rattle.ll_engine.specs.declared.symbol.Row.{Row}
use Rattle.ll_engine.specs.declared.choice.Choice.{Choice}
use Rattle.ll_engine.specs.declared.choice.Choice.TheVariants.{Nothing, One, Several}
use Rattle.ll_engine.specs.declared.table.TheConstants.{NO_ROW}

-- the part's mark
abbrev pub is_marked : List Bool → ℕ → Bool
is_marked marks part = slice_index_or marks part false

-- the bit of a part and a column, in rows of `width` bits
abbrev pub holds : List Bool → ℕ → ℕ → ℕ → Bool
holds bits width part column = nat_lt column width && slice_index_or bits (part * width + column) false

-- each symbol passes: a part by its mark, a token where tokens pass
abbrev pub all_marked : (ℕ → Bool) → Bool → List Symbol → Bool
all_marked marked tokens_pass [] = true
all_marked marked tokens_pass (Token t ∷ symbols) = tokens_pass && all_marked marked tokens_pass symbols
all_marked marked tokens_pass (Part p ∷ symbols) = marked p && all_marked marked tokens_pass symbols

-- the part has a row whose right side passes, or is marked already
abbrev pub has_marked_row : List Row → (ℕ → Bool) → Bool → ℕ → Bool
has_marked_row rows marked tokens_pass part =
    list_any (λ row. (row.left == part) && all_marked marked tokens_pass row.right.items) rows

abbrev pub next_mark : List Row → List Bool → Bool → ℕ → Bool
next_mark rows marks tokens_pass part =
    is_marked marks part || has_marked_row rows (is_marked marks) tokens_pass part

-- the column of a part in a relation of parts to symbols, behind those of the tokens and of the end
abbrev pub part_column : ℕ → ℕ → ℕ
part_column tokens part = tokens + 1 + part

-- behind symbols that pass as nullable stands the column's symbol, or a part that the relation takes to the column
abbrev pub begins : (ℕ → Bool) → (ℕ → ℕ → Bool) → ℕ → ℕ → List Symbol → Bool
begins nullable first tokens column [] = false
begins nullable first tokens column (Token t ∷ symbols) = t == column
begins nullable first tokens column (Part p ∷ symbols) =
    ((part_column tokens p == column) || first p column) || (nullable p && begins nullable first tokens column symbols)

-- some number below n passes the test
abbrev pub any_below : (ℕ → Bool) → ℕ → Bool
any_below test zero = false
any_below test (suc n) = any_below test n || test n

-- the least number below n that passes the test, if one does
abbrev pub IsLeastBelow : (ℕ → Bool) → ℕ → Option ℕ → Type 0
IsLeastBelow test n None = (k : ℕ) → k < n → test k ≡ false
IsLeastBelow test n (Some least) = (least < n) × (test least ≡ true) × ((k : ℕ) → k < least → test k ≡ false)

-- a relation takes the part to the column of another that has the column
abbrev pub leads_by : (ℕ → ℕ → Bool) → ℕ → ℕ → ℕ → ℕ → Bool
leads_by related tokens part column middle = related part (part_column tokens middle) && related middle column

abbrev pub leads : (ℕ → ℕ → Bool) → ℕ → ℕ → ℕ → ℕ → Bool
leads related tokens parts part column = any_below (leads_by related tokens part column) parts

-- some row of the part begins with the column's symbol
abbrev pub has_corner : List Row → (ℕ → Bool) → (ℕ → ℕ → Bool) → ℕ → ℕ → ℕ → Bool
has_corner rows nullable first tokens part column =
    list_any (λ row. (row.left == part) && begins nullable first tokens column row.right.items) rows

-- what stands behind a part in a row of `left` begins with the column's token, or is nullable and the column is that of `left`
abbrev pub continues : (ℕ → Bool) → (ℕ → ℕ → Bool) → ℕ → ℕ → ℕ → List Symbol → Bool
continues nullable first tokens left column symbols =
    (nat_lt column tokens && begins nullable first tokens column symbols)
    || ((part_column tokens left == column) && all_marked nullable false symbols)

abbrev pub is_part : ℕ → Symbol → Bool
is_part part (Token t) = false
is_part part (Part p) = p == part

-- the same at some place of the part in the list
abbrev pub follows_in : (ℕ → Bool) → (ℕ → ℕ → Bool) → ℕ → ℕ → ℕ → ℕ → List Symbol → Bool
follows_in nullable first tokens left part column [] = false
follows_in nullable first tokens left part column (symbol ∷ symbols) =
    (is_part part symbol && continues nullable first tokens left column symbols)
    || follows_in nullable first tokens left part column symbols

abbrev pub has_follower : List Row → (ℕ → Bool) → (ℕ → ℕ → Bool) → ℕ → ℕ → ℕ → ℕ → Bool
has_follower rows nullable first tokens start part column =
    ((part == start) && (column == tokens))
    || list_any (λ row. follows_in nullable first tokens row.left part column row.right.items) rows

-- the token predicts the row
abbrev pub predicts : (ℕ → Bool) → (ℕ → ℕ → Bool) → (ℕ → ℕ → Bool) → ℕ → ℕ → Row → Bool
predicts nullable first follow tokens token row =
    begins nullable first tokens token row.right.items || (all_marked nullable false row.right.items && follow row.left token)

-- the row is one of the part, and the token predicts it
abbrev pub is_candidate : (ℕ → Bool) → (ℕ → ℕ → Bool) → (ℕ → ℕ → Bool) → ℕ → ℕ → ℕ → Row → Bool
is_candidate nullable first follow tokens part token row =
    (row.left == part) && predicts nullable first follow tokens token row

-- row r alone passes the test
pub record IsOnly (test : Row → Bool) (rows : List Row) (r : ℕ) : Type 0 where
  pub row : Row
  pub is_row : slice_get rows r ≡ Some row
  pub passes : test row ≡ true
  pub no_other : (i : ℕ) (other : Row) → slice_get rows i ≡ Some other → test other ≡ true → i ≡ r

-- two rows pass the test
pub record AreSeveral (test : Row → Bool) (rows : List Row) : Type 0 where
  pub first : ℕ
  pub second : ℕ
  pub first_row : Row
  pub second_row : Row
  pub apart : first ≢ second
  pub is_first : slice_get rows first ≡ Some first_row
  pub is_second : slice_get rows second ≡ Some second_row
  pub first_passes : test first_row ≡ true
  pub second_passes : test second_row ≡ true

-- how many rows pass a test, and which where it is one
abbrev pub IsChoice : (Row → Bool) → List Row → Choice → Type 0
IsChoice test rows Nothing = (i : ℕ) (row : Row) → slice_get rows i ≡ Some row → test row ≡ false
IsChoice test rows (One r) = IsOnly test rows r
IsChoice test rows Several = AreSeveral test rows

-- an entry of the table: the number of the only row that passes, or the number that stands for none
abbrev pub IsTableEntry : (Row → Bool) → List Row → ℕ → Type 0
IsTableEntry test rows entry =
    (entry ≡ NO_ROW → IsChoice test rows Nothing) × (entry ≢ NO_ROW → IsOnly test rows entry)
