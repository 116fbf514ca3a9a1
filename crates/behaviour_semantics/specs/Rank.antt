-- Ranks of processes: numbers that fall along every unguarded call.
use Rattle.std.specs.Prelude.{◌<◌, ℕ, List}
use Rattle.behaviour_semantics.specs.Behaviour.{Process}
use Rattle.behaviour_semantics.specs.Guardedness.{HasEdge}

-- The rank of a process is greater than the rank of every process that its body calls unguarded.
abbrev pub RanksFall : List Process → (ℕ → ℕ) → Type 0
RanksFall processes rank = (from to : ℕ) → HasEdge processes from to → rank to < rank from
