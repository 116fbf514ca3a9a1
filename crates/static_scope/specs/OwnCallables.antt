-- What one declaration of a `where` gives its callers.
use Rattle.std.specs.Prelude.{ℕ, List, [], ◌∷◌}
use Rattle.lotos_base.specs.Signature.{Signature}
use Rattle.syntax_trees.specs.WrittenDefinition.{WrittenInner, inner_item, process}
use Rattle.scope_parts.specs.Scope.{Callable}
use Rattle.scope_parts.specs.Definitions.{callable_of}

-- a process with its number; an item gives none
abbrev pub own_callable : Signature → ℕ → WrittenInner → List Callable
own_callable signature number (inner_item item) = []
own_callable signature number (process heading body inner) = callable_of signature number heading ∷ []
