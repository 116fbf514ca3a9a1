-- The processes that a table of processes has.
use Rattle.std.specs.Prelude.{List}
use Rattle.scope_parts.specs.Scope as plain
use Rattle.scope_parts.specs.CallablesView.{callables_of}
use Rattle.scope_parts.specs.declared.callables.Callables.{Callables}

-- the innermost first
abbrev pub processes_in : Callables → List plain.Callable
processes_in table = callables_of table.entries.items
