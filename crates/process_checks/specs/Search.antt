-- The walk that gives ranks: what is known of each process, and the chain of calls that is open, the latest process last.
use Rattle.std.specs.Prelude.{◌≡◌, ◌<◌, ◌≤◌, ◌+◌, ℕ, suc, List, [], ◌∷◌, ◌++◌, Some, length, get_or, slice_get}
use Rattle.process_checks.specs.Graph.{IsCallAt}
use Rattle.process_checks.specs.Ways.{Calls, IsListed, IsWay}
use Rattle.process_checks.specs.declared.search.Pending.{Pending}
use Rattle.process_checks.specs.declared.search.Search.{Search}
use Rattle.process_checks.specs.declared.search.Status.{Status}
use Rattle.process_checks.specs.declared.search.Status.TheVariants as status

-- What is known of a process; a process that there is not has the rank 0.
abbrev pub status_at : List Status → ℕ → Status
status_at statuses process = get_or statuses process (status.Ranked 0)

-- The process has its rank.
abbrev pub IsRanked : List Status → ℕ → Type 0
IsRanked statuses process = (rank : ℕ) × (status_at statuses process ≡ status.Ranked rank)

-- How many processes nothing is known of.
abbrev pub new_ones : List Status → ℕ
new_ones [] = 0
new_ones (status.New ∷ statuses) = suc (new_ones statuses)
new_ones (status.Open position ∷ statuses) = new_ones statuses
new_ones (status.Ranked rank ∷ statuses) = new_ones statuses

-- The rank of a process that has one.
abbrev pub rank_of : Status → ℕ
rank_of status.New = 0
rank_of (status.Open position) = 0
rank_of (status.Ranked rank) = rank

-- Some calls lead from one process to the other, or none where it is the same.
abbrev pub CallsReach : List (List ℕ) → ℕ → ℕ → Type 0
CallsReach graph from to = (n : ℕ) × IsWay graph from n to

-- All that the walk keeps: ranks that fall and are below the next one; of an open process the calls before its position
-- lead to ranked processes; the open processes are those of the chain, each once, and an earlier one reaches a later one.
pub record IsSearch (graph : List (List ℕ)) (statuses : List Status) (chain : List ℕ) (next : ℕ) : Type 0 where
  pub positive : 0 < next
  pub sized : length statuses ≡ length graph
  pub falls :
      (process rank other : ℕ) →
      status_at statuses process ≡ status.Ranked rank →
      Calls graph process other →
      (lower : ℕ) × ((status_at statuses other ≡ status.Ranked lower) × (lower < rank))
  pub below : (process rank : ℕ) → status_at statuses process ≡ status.Ranked rank → rank < next
  pub settled :
      (process position k other : ℕ) →
      status_at statuses process ≡ status.Open position →
      k < position →
      IsCallAt graph process k other →
      IsRanked statuses other
  pub opened : (i process : ℕ) → slice_get chain i ≡ Some process → (position : ℕ) × (status_at statuses process ≡ status.Open position)
  pub waiting : (process position : ℕ) → status_at statuses process ≡ status.Open position → IsListed chain process
  pub distinct : (i j process : ℕ) → slice_get chain i ≡ Some process → slice_get chain j ≡ Some process → i ≡ j
  pub linked :
      (i j process other : ℕ) →
      i ≤ j →
      slice_get chain i ≡ Some process →
      slice_get chain j ≡ Some other →
      CallsReach graph process other
  pub room : next + new_ones statuses + length chain ≡ length graph + 1

-- The process is the latest of the chain.
abbrev pub IsLatest : List ℕ → ℕ → Type 0
IsLatest chain process = (earlier : List ℕ) × (chain ≡ earlier ++ process ∷ [])

-- What is known is not forgotten.
abbrev pub AreKept : List Status → List Status → Type 0
AreKept before after = (process : ℕ) → (status_at after process ≡ status.New) → status_at before process ≡ status.New

-- The position of an open process, and else 0.
abbrev pub position_of : Status → ℕ
position_of status.New = 0
position_of (status.Open position) = position
position_of (status.Ranked rank) = 0

-- The first call from a position on whose process has no rank.
pub record IsPending (graph : List (List ℕ)) (statuses : List Status) (process from : ℕ) (found : Pending) : Type 0 where
  pub calls : IsCallAt graph process found.position found.process
  pub unranked : IsRanked statuses found.process → ⊥
  pub first : (k other : ℕ) → from ≤ k → k < found.position → IsCallAt graph process k other → IsRanked statuses other

-- The walk keeps what it has to.
abbrev pub IsSoundSearch : List (List ℕ) → Search → Type 0
IsSoundSearch graph search = IsSearch graph search.statuses.items search.chain.items search.next

-- What is left to do: two steps for a process of which nothing is known, one for each of the chain.
abbrev pub left_in : Search → ℕ
left_in search = new_ones search.statuses.items + new_ones search.statuses.items + length search.chain.items

-- The walk goes from here to there.
pub record IsStep (graph : List (List ℕ)) (before after : Search) : Type 0 where
  pub sound : IsSoundSearch graph after
  pub kept : AreKept before.statuses.items after.statuses.items

-- A round of the walk that begins with a process and ends with nothing open.
pub record IsRoundFrom (graph : List (List ℕ)) (before after : Search) (root : ℕ) : Type 0 where
  pub sound : IsSoundSearch graph after
  pub kept : AreKept before.statuses.items after.statuses.items
  pub idle : after.chain.items ≡ []
  pub reached : status_at after.statuses.items root ≡ status.New → ⊥
