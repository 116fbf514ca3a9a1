-- Ranks fall along walks.
use Rattle.std.proofs.Common.{◌≡◌, ◌<◌, ◌≤◌, ◌+◌, ℕ, suc, List, [], ◌∷◌, length, arith, ap}
use Rattle.behaviour_semantics.specs.Behaviour.{Process}
use Rattle.behaviour_semantics.specs.Guardedness.{IsWalk, IsGuarded, end_of}
use Rattle.behaviour_semantics.specs.Rank.{RanksFall}

module _ (processes : List Process) (rank : ℕ → ℕ) (fall : RanksFall processes rank) where
  -- each edge of a walk costs one
  pub falls : (from : ℕ) (walk : List ℕ) → IsWalk processes from walk → rank (end_of from walk) + length walk ≤ rank from
  falls from [] w = omega arith
  falls from (to ∷ rest) w =
      let first : rank to < rank from = fall from to w.0 in
      let below : rank (end_of to rest) + length rest ≤ rank to = falls to rest w.1 in
      omega (arith, first, below)

  pub no_cycle : IsGuarded processes
  no_cycle from [] c = absurd c
  no_cycle from (to ∷ rest) c =
      let falling : rank (end_of to rest) + suc (length rest) ≤ rank from = falls from (to ∷ rest) c.0 in
      let same : rank (end_of to rest) ≡ rank from = ap rank c.1 in
      absurd (omega (arith, falling, same))

  pub short_walks : (from : ℕ) (walk : List ℕ) → IsWalk processes from walk → length walk ≤ rank from
  short_walks from walk w = let falling : _ = falls from walk w in omega (arith, falling)
