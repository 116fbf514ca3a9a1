-- Precedences: what orders the operations, and the direction in which the arguments of each are compared
-- (Baader and Nipkow, 5.4).
use Rattle.std.specs.Prelude.{◌<◌, ℕ}

-- The status of an operation: its arguments are compared from the left or from the right.
pub data Status : Type 0 where
  from_left from_right : Status

-- A precedence gives each operation, known by its number, a rank and a status. Different operations may share a
-- rank; then neither is above the other.
pub record Precedence : Type 0 where
  pub rank : ℕ → ℕ
  pub status : ℕ → Status

-- The first operation is above the second one.
abbrev pub IsOver : Precedence → ℕ → ℕ → Type 0
IsOver precedence f g = precedence.rank g < precedence.rank f

-- A place is compared before another one: it stands to the left of it, or to the right of it.
abbrev pub IsComparedBefore : Status → ℕ → ℕ → Type 0
IsComparedBefore from_left k place = k < place
IsComparedBefore from_right k place = place < k
