-- The unguarded calls of a body with their places: those that stand neither below an action or `i` nor on the right of
-- `>>`, in the order of the text; and the graph that they make.
use Rattle.std.specs.Prelude.{ℕ, List, [], ◌∷◌, ◌++◌, map}
use Rattle.behaviour_tree.specs.declared.behaviours.Beh.{Beh, Stop, Exit, Action', Inner', Guard', Choice', Parallel', Hide', Enable', Disable', Let', ChooseValue', ChooseGate', ParGate', Call}
use Rattle.behaviour_tree.specs.declared.definitions.Process.{Process}
use Rattle.process_checks.specs.declared.calls.CallSite.{CallSite}

-- The calls.
abbrev pub call_sites_of : Beh → List CallSite
call_sites_of Stop = []
call_sites_of (Exit values) = []
call_sites_of (Action' _ _ _ _ next) = []
call_sites_of (Inner' _ next) = []
call_sites_of (Guard' _ _ next) = call_sites_of next
call_sites_of (Choice' _ _ left _ right) = call_sites_of left ++ call_sites_of right
call_sites_of (Parallel' _ _ _ left _ right) = call_sites_of left ++ call_sites_of right
call_sites_of (Hide' _ _ next) = call_sites_of next
call_sites_of (Enable' _ _ left _ _ right) = call_sites_of left
call_sites_of (Disable' _ _ left _ right) = call_sites_of left ++ call_sites_of right
call_sites_of (Let' _ _ next) = call_sites_of next
call_sites_of (ChooseValue' _ _ next) = call_sites_of next
call_sites_of (ChooseGate' _ _ _ next) = call_sites_of next
call_sites_of (ParGate' _ _ _ _ next) = call_sites_of next
call_sites_of (Call place process _ _) = record { place = place; process = process } ∷ []

-- The processes that a body calls unguarded.
abbrev pub process_at : CallSite → ℕ
process_at site = site.process

abbrev pub called_in : Beh → List ℕ
called_in body = map process_at (call_sites_of body)

-- The graph of unguarded calls: for each process those that its body calls, in the order of the text.
abbrev pub called_by : Process → List ℕ
called_by process = called_in process.body

abbrev pub call_graph_of : List Process → List (List ℕ)
call_graph_of processes = map called_by processes
