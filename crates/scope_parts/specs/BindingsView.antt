-- The bindings of a table.
use Rattle.std.specs.Prelude.{List}
use Rattle.scope_parts.specs.Scope.{Binding}
use Rattle.scope_parts.specs.Bindings.{bindings_of}
use Rattle.scope_parts.specs.declared.bindings.Bindings.{Bindings}

-- the innermost first
abbrev pub bindings_in : Bindings → List Binding
bindings_in table = bindings_of table.bound.items
