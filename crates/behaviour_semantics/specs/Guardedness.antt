-- Guardedness: a call is unguarded in a body if it stands neither below an action or `i` nor on the right of `>>`.
use Rattle.std.specs.Prelude.{◌≡◌, ℕ, List, [], ◌∷◌, ◌++◌, slice_get, Some}
use Rattle.behaviour_semantics.specs.Behaviour.{Behaviour, stop, exit_with, action, inner_action, guard, choice, parallel, hide, enable, disable, let_be, choose_value, choose_gate, par_gate, call, relabel, Process}

-- The processes that a body calls unguarded, in the order of the text.
abbrev pub unguarded_calls : Behaviour → List ℕ
unguarded_calls stop = []
unguarded_calls (exit_with results) = []
unguarded_calls (action g offers test b) = []
unguarded_calls (inner_action b) = []
unguarded_calls (guard test b) = unguarded_calls b
unguarded_calls (choice b c) = unguarded_calls b ++ unguarded_calls c
unguarded_calls (parallel meet b c) = unguarded_calls b ++ unguarded_calls c
unguarded_calls (hide gates b) = unguarded_calls b
unguarded_calls (enable b variables c) = unguarded_calls b
unguarded_calls (disable b c) = unguarded_calls b ++ unguarded_calls c
unguarded_calls (let_be bindings b) = unguarded_calls b
unguarded_calls (choose_value x b) = unguarded_calls b
unguarded_calls (choose_gate g gates b) = unguarded_calls b
unguarded_calls (par_gate g gates meet b) = unguarded_calls b
unguarded_calls (call number gates arguments) = number ∷ []
unguarded_calls (relabel pairs b) = unguarded_calls b

-- The graph: an edge from a process to each process that its body calls unguarded.
abbrev pub HasEdge : List Process → ℕ → ℕ → Type 0
HasEdge processes from to =
    (process : Process) × (slice_get processes from ≡ Some process) × ((k : ℕ) × (slice_get (unguarded_calls process.body) k ≡ Some to))

-- A walk in the graph, from a process over the listed ones.
abbrev pub IsWalk : List Process → ℕ → List ℕ → Type 0
IsWalk processes from [] = Unit {0}
IsWalk processes from (to ∷ rest) = HasEdge processes from to × IsWalk processes to rest

-- The last process of a walk.
abbrev pub end_of : ℕ → List ℕ → ℕ
end_of from [] = from
end_of from (to ∷ rest) = end_of to rest

-- A cycle of the graph: a walk of one edge or more that comes back to its process. The list has the processes after
-- the first, so it ends with the first.
abbrev pub IsCycle : List Process → ℕ → List ℕ → Type 0
IsCycle processes from [] = ⊥
IsCycle processes from (to ∷ rest) = IsWalk processes from (to ∷ rest) × (end_of to rest ≡ from)

-- The recursion of the processes is guarded: the graph has no cycle.
abbrev pub IsGuarded : List Process → Type 0
IsGuarded processes = (from : ℕ) (walk : List ℕ) → IsCycle processes from walk → ⊥
