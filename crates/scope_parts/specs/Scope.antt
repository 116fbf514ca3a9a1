-- What is visible where a behaviour stands: gates, variables and processes, each a name space of its own (ISO 8807, static
-- semantics). Inner declarations hide outer ones. Names are compared without regard to letter case.
use Rattle.std.specs.Prelude.{ℕ, suc, Bool, List, [], ◌∷◌, Option, None, Some, is_some, if◌then◌else◌}
use Rattle.std.specs.Str.{bytes_eq}
use Rattle.lotos_base.specs.Names.{folded}
use Rattle.lotos_base.specs.Equation.{Place, Variable}
use Rattle.lotos_base.specs.WrittenTerm.{PlacedName}
use Rattle.scope_parts.specs.ScopeFault.{unknown_gate, unknown_process}
use Rattle.scope_parts.specs.Resolution.{Resolution, resolved, faulty, and_then, put_in_front}

-- A name with the number of what it stands for, kept in small letters.
pub record Binding : Type 0 where
  pub key : List ℕ
  pub number : ℕ

-- A process as its callers see it: its number, how many gates it has, and the sorts of its parameters, None for one that
-- the data lack.
pub record Callable : Type 0 where
  pub name : List ℕ
  pub number : ℕ
  pub gates : ℕ
  pub sorts : List (Option ℕ)

-- What is visible: gates and processes, the innermost first, and variables, the innermost last.
pub record Scope : Type 0 where
  pub gates : List Binding
  pub variables : List Variable
  pub processes : List Callable

-- the number under a name in small letters, the innermost first
abbrev pub bound_to : List Binding → List ℕ → Option ℕ
bound_to [] key = None
bound_to (b ∷ bindings) key = if bytes_eq key b.key then Some b.number else bound_to bindings key

-- a name bound to a number, which hides what it was bound to before
abbrev pub bind : List ℕ → ℕ → List Binding → List Binding
bind name number bindings = record { key = folded name; number = number } ∷ bindings

-- names bound to numbers in their order, from a number on
abbrev pub bind_all : List (List ℕ) → ℕ → List Binding → List Binding
bind_all [] next bindings = bindings
bind_all (name ∷ names) next bindings = bind_all names (suc next) (bind name next bindings)

-- the gate of a name, or the fault that none is visible
abbrev pub found_gate : PlacedName → Option ℕ → Resolution ℕ
found_gate gate None = faulty (unknown_gate gate.place gate.name)
found_gate gate (Some number) = resolved number

abbrev pub gate_at : List Binding → PlacedName → Resolution ℕ
gate_at bindings gate = found_gate gate (bound_to bindings (folded gate.name))

-- the gates of a list, which may repeat
abbrev pub gates_at : List Binding → List PlacedName → Resolution (List ℕ)
gates_at bindings [] = resolved []
gates_at bindings (gate ∷ gates) = and_then (gate_at bindings gate) (λ number. put_in_front number (gates_at bindings gates))

-- the process of a name, the innermost first; of two that one `where` declares, the first
abbrev pub callable_named : List Callable → List ℕ → Option Callable
callable_named [] name = None
callable_named (p ∷ processes) name = if bytes_eq (folded name) (folded p.name) then Some p else callable_named processes name

-- the process that a call names, or the fault that none is visible
abbrev pub found_process : Place → List ℕ → Option Callable → Resolution Callable
found_process place name None = faulty (unknown_process place name)
found_process place name (Some callable) = resolved callable

-- whether the name is bound
abbrev pub is_bound : List Binding → List ℕ → Bool
is_bound bindings name = is_some (bound_to bindings (folded name))

-- the first name of a list that is bound, or that one before it in the list has
abbrev pub double_from : List Binding → List PlacedName → Option PlacedName
double_from before [] = None
double_from before (name ∷ names) = if is_bound before name.name then Some name else double_from (bind name.name 0 before) names

-- the first name of a list that one before it has
abbrev pub first_double : List PlacedName → Option PlacedName
first_double names = double_from [] names
