-- What ranks of processes show.
use Rattle.std.specs.Prelude.{◌≤◌, ℕ, List, length}
use Rattle.behaviour_semantics.specs.Behaviour.{Process}
use Rattle.behaviour_semantics.specs.Guardedness.{IsWalk, IsGuarded}
use Rattle.behaviour_semantics.specs.Rank.{RanksFall}

-- where ranks fall, the graph of unguarded calls has no cycle, so that recursion is guarded; and a walk has no more
-- edges than the rank of the process that it begins with
pub record RanksGuard : Type 0 where
  pub guarded : (processes : List Process) (rank : ℕ → ℕ) → RanksFall processes rank → IsGuarded processes
  pub short :
      (processes : List Process) (rank : ℕ → ℕ) →
      RanksFall processes rank →
      (from : ℕ) (walk : List ℕ) →
      IsWalk processes from walk →
      length walk ≤ rank from
