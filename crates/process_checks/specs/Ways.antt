-- Ways in a graph of calls by their number of calls alone, and what the distances to a process are.
use Rattle.std.specs.Prelude.{◌≡◌, ◌<◌, ◌≤◌, ◌↔◌, ℕ, zero, suc, List, Option, None, Some, length, get_or, slice_get}
use Rattle.process_checks.specs.Graph.{calls_at}

-- The number is one of the list.
abbrev pub IsListed : List ℕ → ℕ → Type 0
IsListed numbers n = (i : ℕ) × (slice_get numbers i ≡ Some n)

-- One process calls the other.
abbrev pub Calls : List (List ℕ) → ℕ → ℕ → Type 0
Calls graph process other = IsListed (calls_at graph process) other

-- So many calls lead from one process to the other.
abbrev pub IsWay : List (List ℕ) → ℕ → ℕ → ℕ → Type 0
IsWay graph from zero to = from ≡ to
IsWay graph from (suc n) to = (next : ℕ) × (Calls graph from next × IsWay graph next n to)

-- Some process leads back to itself.
abbrev pub CallsHaveCycle : List (List ℕ) → Type 0
CallsHaveCycle graph = (process : ℕ) × ((n : ℕ) × IsWay graph process (suc n) process)

-- The ranks fall along every call.
pub record RanksOf (graph : List (List ℕ)) (ranks : List ℕ) : Type 0 where
  pub covers : length ranks ≡ length graph
  pub fall : (process other : ℕ) → Calls graph process other → get_or ranks other 0 < get_or ranks process 0

-- The lists of callers: of each process of the graph those that call it.
abbrev pub AreCallers : List (List ℕ) → List (List ℕ) → Type 0
AreCallers graph callers =
    (process other : ℕ) → process < length graph → (Calls callers process other) ↔ (Calls graph other process)

-- The distance that is kept for a process, if there is one.
abbrev pub distance_in : List (Option ℕ) → ℕ → Option ℕ
distance_in distances process = get_or distances process None

-- The distances to a process: the number of calls of a shortest way, where there is a way.
pub record AreDistances (graph : List (List ℕ)) (to : ℕ) (distances : List (Option ℕ)) : Type 0 where
  pub way : (from n : ℕ) → distance_in distances from ≡ Some n → IsWay graph from n to
  pub shortest : (from n : ℕ) → IsWay graph from n to → (m : ℕ) × ((distance_in distances from ≡ Some m) × (m ≤ n))
