-- The processes of a table of processes.
use Rattle.std.specs.Prelude.{List, [], ◌∷◌, length, map, reverse}
use Rattle.lotos_base.specs.Name.{spelling}
use Rattle.lotos_base.specs.Names.{folded}
use Rattle.scope_parts.specs.Scope as plain
use Rattle.scope_parts.specs.Scope.{Binding}
use Rattle.scope_parts.specs.declared.callable.Callable.{Callable}

-- a process as its callers see it
abbrev pub callable_in : Callable → plain.Callable
callable_in entry = record {
  name = spelling entry.name;
  number = entry.number;
  gates = entry.gates;
  sorts = entry.sorts.items;
}

-- the processes of entries, the innermost first; the entries stand with the innermost last
abbrev pub callables_of : List Callable → List plain.Callable
callables_of entries = reverse (map callable_in entries)

-- their names bound to their positions among the entries
abbrev pub process_positions : List plain.Callable → List Binding
process_positions [] = []
process_positions (p ∷ processes) = record { key = folded p.name; number = length processes } ∷ process_positions processes
