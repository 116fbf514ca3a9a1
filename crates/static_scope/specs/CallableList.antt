-- Processes as the code keeps them for callers.
use Rattle.std.specs.Prelude.{List, map}
use Rattle.scope_parts.specs.Scope as plain
use Rattle.scope_parts.specs.CallablesView.{callable_in}
use Rattle.scope_parts.specs.declared.callable.Callable.{Callable}

-- in their order
abbrev pub callables_in : List Callable → List plain.Callable
callables_in list = map callable_in list
