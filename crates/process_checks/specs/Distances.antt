-- The walk in breadth that finds the distances to a process, level by level against the calls.
use Rattle.std.specs.Prelude.{ℕ, suc, List, [], ◌∷◌, ◌++◌, Option, None, Some, replicate, set}
use Rattle.process_checks.specs.Graph.{calls_at}
use Rattle.process_checks.specs.Ways.{distance_in}

-- The distances that are known, and the processes of the level that is being found.
pub record Reach : Type 0 where
  pub distances : List (Option ℕ)
  pub level_listed : List ℕ

abbrev pub reach_of : List (Option ℕ) → List ℕ → Reach
reach_of distances level_listed = record { distances = distances; level_listed = level_listed }

-- A process that has no distance is of the level.
abbrev pub marked_by : Option ℕ → ℕ → ℕ → Reach → Reach
marked_by None level process reach =
    reach_of (set reach.distances process (Some level)) (reach.level_listed ++ process ∷ [])
marked_by (Some known) level process reach = reach

abbrev pub marked : ℕ → ℕ → Reach → Reach
marked level process reach = marked_by (distance_in reach.distances process) level process reach

-- The same of each process of a list, and of each that calls one of the list.
abbrev pub marked_processes : ℕ → List ℕ → Reach → Reach
marked_processes level [] reach = reach
marked_processes level (process ∷ processes) reach = marked_processes level processes (marked level process reach)

abbrev pub one_marked : ℕ → Option ℕ → Reach → Reach
one_marked level None reach = reach
one_marked level (Some process) reach = marked level process reach

abbrev pub callers_marked : List (List ℕ) → ℕ → List ℕ → Reach → Reach
callers_marked callers level [] reach = reach
callers_marked callers level (process ∷ processes) reach =
    callers_marked callers level processes (marked_processes level (calls_at callers process) reach)

-- No distance is known.
abbrev pub none_known : ℕ → List (Option ℕ)
none_known count = replicate count None

-- How many processes have no distance.
abbrev pub far_ones : List (Option ℕ) → ℕ
far_ones [] = 0
far_ones (None ∷ distances) = suc (far_ones distances)
far_ones (Some known ∷ distances) = far_ones distances

-- The callers of processes: with the calls of a body, its process is put among the callers of each that it calls.
abbrev pub with_caller : ℕ → ℕ → List (List ℕ) → List (List ℕ)
with_caller caller process callers = set callers process (calls_at callers process ++ caller ∷ [])

abbrev pub with_call : ℕ → Option ℕ → List (List ℕ) → List (List ℕ)
with_call caller None callers = callers
with_call caller (Some process) callers = with_caller caller process callers

abbrev pub with_calls : ℕ → List ℕ → List (List ℕ) → List (List ℕ)
with_calls caller [] callers = callers
with_calls caller (process ∷ processes) callers = with_calls caller processes (with_caller caller process callers)
