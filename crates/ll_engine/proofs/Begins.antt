-- The test of what a list of symbols may begin with, place by place.
use Rattle.std.proofs.Common.{◌≡◌, ℕ, ◌==◌, Bool, true, false, ◌||◌, ◌&&◌, List, [], ◌∷◌, ◌++◌, refl, ap, inl, inr}
use Rattle.std.specs.Prelude.{◌⊎◌}
use Rattle.std.proofs.lemmas.Bool.{false≢true, or_cases, or_left, or_right, and_parts, and_from}
use Rattle.ll_engine.specs.declared.symbol.Symbol.{Symbol}
use Rattle.ll_engine.specs.declared.symbol.Symbol.TheVariants.{Token, Part}
use Rattle.ll_engine.specs.Computed.{part_column, all_marked, begins}

-- the symbol is the column's, or a part that the relation takes to the column
abbrev pub starts_symbol : (ℕ → ℕ → Bool) → ℕ → ℕ → Symbol → Bool
starts_symbol first tokens column (Token t) = t == column
starts_symbol first tokens column (Part p) = (part_column tokens p == column) || first p column

-- where the test is met: behind a front that passes as nullable
pub record BeginsAt (nullable : ℕ → Bool) (first : ℕ → ℕ → Bool) (tokens column : ℕ) (symbols : List Symbol) : Type 0 where
  pub front : List Symbol
  pub symbol : Symbol
  pub back : List Symbol
  pub split : symbols ≡ front ++ symbol ∷ back
  pub nullable_front : all_marked nullable false front ≡ true
  pub starts : starts_symbol first tokens column symbol ≡ true

pub BeginsAt-begins : (nullable : ℕ → Bool) (first : ℕ → ℕ → Bool) (tokens column : ℕ) (symbols : List Symbol) →
    begins nullable first tokens column symbols ≡ true → BeginsAt nullable first tokens column symbols
BeginsAt-begins nullable first tokens column [] h = absurd (false≢true h)
BeginsAt-begins nullable first tokens column (Token t ∷ symbols) h =
    record { front = []; symbol = Token t; back = symbols; split = refl; nullable_front = refl; starts = h }
BeginsAt-begins nullable first tokens column (Part p ∷ symbols) h =
    elim (or_cases ((part_column tokens p == column) || first p column) (nullable p && begins nullable first tokens column symbols) h) [
      | inl here ↦ record { front = []; symbol = Part p; back = symbols; split = refl; nullable_front = refl; starts = here }
      | inr later ↦
          let parts = and_parts (nullable p) (begins nullable first tokens column symbols) later in
          let at = BeginsAt-begins nullable first tokens column symbols parts.1 in
          record {
            front = Part p ∷ at.front;
            symbol = at.symbol;
            back = at.back;
            split = ap (λ (xs : List Symbol). Part p ∷ xs) at.split;
            nullable_front = and_from (nullable p) (all_marked nullable false at.front) parts.0 at.nullable_front;
            starts = at.starts;
          }
    ]

pub begins-at : (nullable : ℕ → Bool) (first : ℕ → ℕ → Bool) (tokens column : ℕ) (front : List Symbol) (symbol : Symbol)
    (back : List Symbol) →
    all_marked nullable false front ≡ true → starts_symbol first tokens column symbol ≡ true
    → begins nullable first tokens column (front ++ symbol ∷ back) ≡ true
begins-at nullable first tokens column [] (Token t) back front_null starts = starts
begins-at nullable first tokens column [] (Part p) back front_null starts =
    or_left ((part_column tokens p == column) || first p column) (nullable p && begins nullable first tokens column back) starts
begins-at nullable first tokens column (Token t ∷ front) symbol back front_null starts = absurd (false≢true front_null)
begins-at nullable first tokens column (Part p ∷ front) symbol back front_null starts =
    let parts = and_parts (nullable p) (all_marked nullable false front) front_null in
    or_right ((part_column tokens p == column) || first p column)
    (nullable p && begins nullable first tokens column (front ++ symbol ∷ back))
    (and_from (nullable p) (begins nullable first tokens column (front ++ symbol ∷ back)) parts.0
    (begins-at nullable first tokens column front symbol back parts.1 starts))

-- over joined lists
pub begins-cases : (nullable : ℕ → Bool) (first : ℕ → ℕ → Bool) (tokens column : ℕ) (front back : List Symbol) →
    begins nullable first tokens column (front ++ back) ≡ true →
    (begins nullable first tokens column front ≡ true) ⊎ ((all_marked nullable false front ≡ true)
    × (begins nullable first tokens column back ≡ true))
begins-cases nullable first tokens column [] back h = inr (refl, h)
begins-cases nullable first tokens column (Token t ∷ front) back h = inl h
begins-cases nullable first tokens column (Part p ∷ front) back h =
    elim (or_cases ((part_column tokens p == column) || first p column) (nullable p && begins nullable first tokens column (front ++ back))
    h) [
      | inl here ↦ inl (or_left ((part_column tokens p == column) || first p column)
          (nullable p && begins nullable first tokens column front) here)
      | inr later ↦
          let parts = and_parts (nullable p) (begins nullable first tokens column (front ++ back)) later in
          elim (begins-cases nullable first tokens column front back parts.1) [
            | inl within ↦ inl (or_right ((part_column tokens p == column) || first p column)
                (nullable p && begins nullable first tokens column front)
                (and_from (nullable p) (begins nullable first tokens column front) parts.0 within))
            | inr behind ↦ inr (and_from (nullable p) (all_marked nullable false front) parts.0 behind.0, behind.1)
          ]
    ]

pub begins-front : (nullable : ℕ → Bool) (first : ℕ → ℕ → Bool) (tokens column : ℕ) (front back : List Symbol) →
    begins nullable first tokens column front ≡ true → begins nullable first tokens column (front ++ back) ≡ true
begins-front nullable first tokens column [] back h = absurd (false≢true h)
begins-front nullable first tokens column (Token t ∷ front) back h = h
begins-front nullable first tokens column (Part p ∷ front) back h =
    elim (or_cases ((part_column tokens p == column) || first p column) (nullable p && begins nullable first tokens column front) h) [
      | inl here ↦ or_left ((part_column tokens p == column) || first p column)
          (nullable p && begins nullable first tokens column (front ++ back)) here
      | inr later ↦
          let parts = and_parts (nullable p) (begins nullable first tokens column front) later in
          or_right ((part_column tokens p == column) || first p column) (nullable p && begins nullable first tokens column (front ++ back))
          (and_from (nullable p) (begins nullable first tokens column (front ++ back)) parts.0
          (begins-front nullable first tokens column front back parts.1))
    ]

pub begins-behind : (nullable : ℕ → Bool) (first : ℕ → ℕ → Bool) (tokens column : ℕ) (front back : List Symbol) →
    all_marked nullable false front ≡ true → begins nullable first tokens column back ≡ true
    → begins nullable first tokens column (front ++ back) ≡ true
begins-behind nullable first tokens column [] back front_null h = h
begins-behind nullable first tokens column (Token t ∷ front) back front_null h = absurd (false≢true front_null)
begins-behind nullable first tokens column (Part p ∷ front) back front_null h =
    let parts = and_parts (nullable p) (all_marked nullable false front) front_null in
    or_right ((part_column tokens p == column) || first p column) (nullable p && begins nullable first tokens column (front ++ back))
    (and_from (nullable p) (begins nullable first tokens column (front ++ back)) parts.0
    (begins-behind nullable first tokens column front back parts.1 h))
