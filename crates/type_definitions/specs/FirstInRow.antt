-- The first mention of one type that lies on a cycle.
use Rattle.std.specs.Prelude.{ℕ, ◌<◌, List}
use Rattle.type_definitions.specs.TypeGraph.{IsMention, IsOnCycle}

-- no mention of the type lies on a cycle
abbrev pub HasNoneInRow : List (List ℕ) → ℕ → Type 0
HasNoneInRow graph by = (m j : ℕ) → IsMention graph by m j → ¬ IsOnCycle graph by j

-- the mention at the position does, and none before it
pub record IsFirstInRow (graph : List (List ℕ)) (by position : ℕ) : Type 0 where
  pub mentioned : ℕ
  pub is_there : IsMention graph by position mentioned
  pub on_cycle : IsOnCycle graph by mentioned
  pub first : (m j : ℕ) → m < position → IsMention graph by m j → ¬ IsOnCycle graph by j
