-- A walk along the rows that looks for those that pass a test.
use Rattle.std.proofs.Common.{◌≡◌, ℕ, ◌+◌, ◌<◌, ◌≤◌, Bool, true, false, List, length, ap, sym, ◌∙◌, arith, inl, inr}
use Rattle.std.specs.Prelude.{Some, None, Option, slice_get, MatchOption}
use Rattle.std.proofs.lemmas.Bool.{both_ways, cases_eq, true≢false, false≢true}
use Rattle.std.proofs.lemmas.Option.{slice_get_within}
use Rattle.std.specs.Option.{is_some}
use Rattle.ll_engine.specs.declared.symbol.Row.{Row}
use Rattle.ll_engine.specs.declared.choice.Choice.TheVariants.{Nothing}
use Rattle.ll_engine.specs.Computed.{IsOnly, AreSeveral, IsChoice}

-- none of the first n rows passes, or row r alone does
abbrev pub NoneBelow : (Row → Bool) → List Row → ℕ → Type 0
NoneBelow test rows n = (i : ℕ) (row : Row) → i < n → slice_get rows i ≡ Some row → test row ≡ false

pub record OnlyBelow (test : Row → Bool) (rows : List Row) (n r : ℕ) : Type 0 where
  pub row : Row
  pub is_row : slice_get rows r ≡ Some row
  pub passes : test row ≡ true
  pub below : r < n
  pub no_other : (i : ℕ) (other : Row) → i < n → slice_get rows i ≡ Some other → test other ≡ true → i ≡ r

abbrev pub FoundBelow : (Row → Bool) → List Row → ℕ → Option ℕ → Type 0
FoundBelow test rows n found = MatchOption found (NoneBelow test rows n) (OnlyBelow test rows n)

module _ (test : Row → Bool) (rows : List Row) (n : ℕ) (row : Row) (is : slice_get rows n ≡ Some row) where
  same_row : (i : ℕ) (other : Row) → i ≡ n → slice_get rows i ≡ Some other → row ≡ other
  same_row i other e h = let k : slice_get rows i ≡ Some row = ap (slice_get rows) e ∙ is in cc

  -- the next row fails
  pub FoundBelow-fails : (found : Option ℕ) → FoundBelow test rows n found → test row ≡ false → FoundBelow test rows (n + 1) found
  FoundBelow-fails None none fails = λ i other lt h.
      elim (cases_eq i n) [
        | inl e ↦ ap test (sym (same_row i other e h)) ∙ fails
        | inr ne ↦ none i other (omega arith) h
      ]
  FoundBelow-fails (Some r) only fails = record {
    row = only.row;
    is_row = only.is_row;
    passes = only.passes;
    below = let b = only.below in omega arith;
    no_other = λ i other lt h passes.
        elim (cases_eq i n) [
          | inl e ↦ absurd (both_ways (test row) fails (ap test (same_row i other e h) ∙ passes))
          | inr ne ↦ only.no_other i other (omega arith) h passes
        ];
  }

  -- the next row passes, and it is the first
  pub FoundBelow-first : NoneBelow test rows n → test row ≡ true → FoundBelow test rows (n + 1) (Some n)
  FoundBelow-first none passes = record {
    row = row;
    is_row = is;
    passes = passes;
    below = omega arith;
    no_other = λ i other lt h other_passes.
        elim (cases_eq i n) [
          | inl e ↦ e
          | inr ne ↦ absurd (both_ways (test other) (none i other (omega arith) h) other_passes)
        ];
  }

  -- the next row passes, and it is the second
  pub AreSeveral-second : (r : ℕ) → OnlyBelow test rows n r → test row ≡ true → AreSeveral test rows
  AreSeveral-second r only passes = record {
    first = r;
    second = n;
    first_row = only.row;
    second_row = row;
    apart = λ e. let b = only.below in omega arith;
    is_first = only.is_row;
    is_second = is;
    first_passes = only.passes;
    second_passes = passes;
  }

  pub FoundBelow-next : (found : Option ℕ) → is_some found ≡ false → FoundBelow test rows n found → test row ≡ true
      → FoundBelow test rows (n + 1) (Some n)
  FoundBelow-next None missing below passes = FoundBelow-first below passes
  FoundBelow-next (Some r) missing below passes = absurd (true≢false missing)

  pub AreSeveral-next : (found : Option ℕ) → is_some found ≡ true → FoundBelow test rows n found → test row ≡ true → AreSeveral test rows
  AreSeveral-next None some below passes = absurd (false≢true some)
  AreSeveral-next (Some r) some below passes = AreSeveral-second r below passes

-- at the end of the walk
pub IsChoice-none : (test : Row → Bool) (rows : List Row) (n : ℕ) → length rows ≤ n → NoneBelow test rows n → IsChoice test rows Nothing
IsChoice-none test rows n le none = λ i row h. let lt = slice_get_within rows i row h in none i row (omega arith) h

pub IsOnly-below : (test : Row → Bool) (rows : List Row) (n r : ℕ) → length rows ≤ n → OnlyBelow test rows n r → IsOnly test rows r
IsOnly-below test rows n r le only = record {
  row = only.row;
  is_row = only.is_row;
  passes = only.passes;
  no_other = λ i other h passes. let lt = slice_get_within rows i other h in only.no_other i other (omega arith) h passes;
}
