-- What a request carries is shorter than its line.
use Rattle.std.specs.Prelude.{ℕ, ◌+◌, ◌≤◌, List, length}
use Rattle.line_server.specs.Request.{Request, skip, show_menu, show_behaviour, show_trace, undo, leave, no_request, take_step, save, replay, show_normal, compare, list_values, list_instances, request_of}

-- the texts of a request have no more bytes than this
abbrev pub Carries : ℕ → Request → Type 0
Carries n skip = Unit {0}
Carries n show_menu = Unit {0}
Carries n show_behaviour = Unit {0}
Carries n show_trace = Unit {0}
Carries n undo = Unit {0}
Carries n leave = Unit {0}
Carries n no_request = Unit {0}
Carries n (take_step number terms) = length terms ≤ n
Carries n (save name) = length name ≤ n
Carries n (replay name) = length name ≤ n
Carries n (show_normal terms) = length terms ≤ n
Carries n (compare terms) = length terms ≤ n
Carries n (list_values name size) = length name ≤ n
Carries n (list_instances number size) = Unit {0}

-- one byte less than the line has, at the most
abbrev pub RequestsAreWithin : Type 0
RequestsAreWithin = (line : List ℕ) (n : ℕ) → length line ≤ n + 1 → Carries n (request_of line)
