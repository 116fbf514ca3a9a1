-- The entries of the table, one after another.
use Rattle.std.proofs.Common.{◌≡◌, ℕ, ◌+◌, ◌*◌, ◌/◌, ◌%◌, ◌<◌, Bool, List, [], ◌∷◌, ◌++◌, length, get_or, sym, subst, arith, inl, inr}
use Rattle.std.specs.Prelude.{slice_index}
use Rattle.std.proofs.lemmas.Bool.{cases_lt}
use Rattle.std.proofs.lemmas.List.{get_or_append_left, get_or_push}
use Rattle.std.proofs.lemmas.Nat.{div_below}
use Rattle.std.proofs.Math.Nat.{mod-add-div', mod-lt}
use Rattle.ll_engine.specs.declared.symbol.Row.{Row}
use Rattle.ll_engine.specs.declared.fault.TableFault.{TableFault}
use Rattle.ll_engine.specs.Computed.{IsTableEntry}
use Rattle.ll_engine.specs.Table.{width_of, AreEntries, IsConflictEntry, IsTableFault}

pub AreEntries-more : (test : ℕ → ℕ → Row → Bool) (rows : List Row) (tokens : ℕ) (table : List ℕ) (n entry : ℕ) → length table ≡ n →
    AreEntries test rows tokens table n → IsTableEntry (test (n / width_of tokens) (n % width_of tokens)) rows entry
    → AreEntries test rows tokens (table ++ entry ∷ []) (n + 1)
AreEntries-more test rows tokens table n entry len before here cell lt =
    elim (cases_lt cell n) [
      | inl below ↦
          subst (IsTableEntry (test (cell / width_of tokens) (cell % width_of tokens)) rows)
          (sym (get_or_append_left table (entry ∷ []) 0 cell (omega arith))) (before cell below)
      | inr ge ↦
          let same : n ≡ cell = omega arith in
          let at : get_or (table ++ entry ∷ []) n 0 ≡ entry = get_or_push table entry 0 n len in
          subst (λ (k : ℕ). IsTableEntry (test (k / width_of tokens) (k % width_of tokens)) rows (slice_index (table ++ entry ∷ []) k)) same
          (subst (IsTableEntry (test (n / width_of tokens) (n % width_of tokens)) rows) (sym at) here)
    ]

pub IsTableFault-at : (test : ℕ → ℕ → Row → Bool) (rows : List Row) (parts tokens cell : ℕ) (table : List ℕ) (fault : TableFault)
    → cell < parts * width_of tokens →
    AreEntries test rows tokens table cell →
    IsConflictEntry (test (cell / width_of tokens) (cell % width_of tokens)) rows (cell / width_of tokens) (cell % width_of tokens) fault
    → IsTableFault test rows parts tokens fault
IsTableFault-at test rows parts tokens cell table fault lt before conflict =
    let w : 0 < width_of tokens = omega arith in
    let rest = mod-lt cell w in
    subst (IsTableFault test rows parts tokens) (sym conflict.0) (record {
      part_in_range = div_below cell (width_of tokens) parts w lt;
      token_in_range = omega arith;
      several = conflict.1;
      table = table;
      entries_before =
          let place : cell / width_of tokens * width_of tokens + cell % width_of tokens ≡ cell = let e =
          mod-add-div' cell (width_of tokens) in omega arith in
          subst (AreEntries test rows tokens table) (sym place) before;
    })
