-- A graph of calls: for each process the list of the processes that it calls, in the order of the text. What the cycles of
-- such a graph are, which call is the first that lies on one, and which way back from a call is kept.
use Rattle.std.specs.Prelude.{◌≡◌, ◌<◌, ◌≤◌, ◌⊎◌, ℕ, List, [], ◌∷◌, length, Some, get_or, slice_get}

-- The calls of a process; a process that there is not has none.
abbrev pub calls_at : List (List ℕ) → ℕ → List ℕ
calls_at graph process = get_or graph process []

-- The call at the position in the body of the process is one of the other process.
abbrev pub IsCallAt : List (List ℕ) → ℕ → ℕ → ℕ → Type 0
IsCallAt graph process position other = slice_get (calls_at graph process) position ≡ Some other

-- Beginning in one process, the calls at these positions lead to another one: the first position is one in the body of
-- the first process, each later one in the body of the process called before. The bodies on the way are those of the
-- listed processes.
abbrev pub CallsLead : List (List ℕ) → ℕ → List ℕ → List ℕ → ℕ → Type 0
CallsLead graph from [] [] to = from ≡ to
CallsLead graph from (position ∷ positions) (process ∷ way) to =
    (process ≡ from) × ((next : ℕ) × (IsCallAt graph from position next × CallsLead graph next positions way to))
CallsLead graph from _ _ to = ⊥

-- The call at the position lies on a cycle: it and further calls lead back to its process.
pub record LiesOnCycle (graph : List (List ℕ)) (process position : ℕ) : Type 0 where
  pub positions : List ℕ
  pub way : List ℕ
  pub leads : CallsLead graph process (position ∷ positions) way process

-- One call stands before another in the text: in an earlier body, or earlier in one body.
abbrev pub CallStandsBefore : ℕ → ℕ → ℕ → ℕ → Type 0
CallStandsBefore process position other_process other_position =
    (process < other_process) ⊎ ((process ≡ other_process) × (position < other_position))

-- The call is the first of all that lie on a cycle.
pub record IsFirstOnCycle (graph : List (List ℕ)) (process position : ℕ) : Type 0 where
  pub on_cycle : LiesOnCycle graph process position
  pub first :
      (other_process other_position : ℕ) →
      CallStandsBefore other_process other_position process position →
      LiesOnCycle graph other_process other_position →
      ⊥

-- The positions come no later than others, compared one after the other.
abbrev pub ComeNoLater : List ℕ → List ℕ → Type 0
ComeNoLater [] _ = Unit {0}
ComeNoLater (i ∷ positions) (j ∷ others) = (i < j) ⊎ ((i ≡ j) × ComeNoLater positions others)
ComeNoLater (i ∷ positions) [] = ⊥

-- The way is the one that is kept: a shortest one, and among the shortest the one whose calls come earliest.
pub record IsKeptWay (graph : List (List ℕ)) (from : ℕ) (way : List ℕ) (to : ℕ) : Type 0 where
  pub positions : List ℕ
  pub leads : CallsLead graph from positions way to
  pub shortest :
      (others other_way : List ℕ) →
      CallsLead graph from others other_way to →
      length positions ≤ length others
  pub earliest :
      (others other_way : List ℕ) →
      CallsLead graph from others other_way to →
      length others ≡ length positions →
      ComeNoLater positions others

-- The cycle that is kept of a call: its process, and then the kept way from the called process back to it.
abbrev pub IsKeptCycle : List (List ℕ) → ℕ → ℕ → List ℕ → Type 0
IsKeptCycle graph process position [] = ⊥
IsKeptCycle graph process position (first ∷ way) =
    (first ≡ process) × ((called : ℕ) × (IsCallAt graph process position called × IsKeptWay graph called way process))
