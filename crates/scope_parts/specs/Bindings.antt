-- What a table of bindings keeps: each binding with what it hides, and the innermost number under each name.
use Rattle.std.specs.Prelude.{ℕ, List, [], ◌∷◌, Option, Vec, map, reverse}
use Rattle.std.specs.declared.alloc.Global.{Global}
use Rattle.std.specs.Str.{bytes_eq}
use Rattle.std.specs.Map.{lookup}
use Rattle.scope_parts.specs.Scope.{Binding, bound_to}
use Rattle.scope_parts.specs.declared.bound.Bound.{Bound}

-- the binding of an entry
abbrev pub bound_as : Bound → Binding
bound_as entry = record { key = entry.key.items; number = entry.number }

-- the bindings of entries, the innermost first; the entries stand with the innermost last
abbrev pub bindings_of : List Bound → List Binding
bindings_of entries = reverse (map bound_as entries)

-- what each binding hides, the innermost first
abbrev pub hidden_by : List Binding → List (Option ℕ)
hidden_by [] = []
hidden_by (b ∷ bindings) = bound_to bindings b.key ∷ hidden_by bindings

abbrev pub hidden_in : List Bound → List (Option ℕ)
hidden_in entries = reverse (map (λ (entry : Bound). entry.hidden) entries)

-- the number that a table has under a name in small letters
abbrev pub kept_under : List (Vec ℕ Global × ℕ) → List ℕ → Option ℕ
kept_under entries key = lookup (λ (known : Vec ℕ Global). bytes_eq key known.items) entries
