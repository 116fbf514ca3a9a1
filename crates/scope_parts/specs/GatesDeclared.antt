-- What a table of gates knows, and what it knows once more gates were declared.
use Rattle.std.specs.Prelude.{◌≡◌, ℕ, List, [], ◌∷◌, ◌++◌, length, Option, None, Some, MatchBool}
use Rattle.scope_parts.specs.Scope.{Binding, bind, is_bound}

-- The names of all gates that were declared so far, by their numbers, and those that are visible, the innermost first.
pub record Gates : Type 0 where
  pub names : List (List ℕ)
  pub visible : List Binding

-- one gate more, which gets the next number and hides the outer ones of its name
abbrev pub declared_one : List ℕ → Gates → Gates
declared_one name gates = record {
  names = gates.names ++ name ∷ [];
  visible = bind name (length gates.names) gates.visible;
}

-- more gates, one after the other
abbrev pub declared : List (List ℕ) → Gates → Gates
declared [] gates = gates
declared (name ∷ names) gates = declared names (declared_one name gates)

-- a table of gates, and the names of a list that were looked at before
pub record Entered : Type 0 where
  pub before : List Binding
  pub gates : Gates

-- a name that was looked at before changes nothing; another one is declared and has the number
abbrev pub DeclaresOnce : List ℕ → Entered → Option ℕ → Entered → Type 0
DeclaresOnce name old number new =
    MatchBool (is_bound old.before name) ((number ≡ None) × (new ≡ old))
    ((number ≡ Some (length old.gates.names))
    × (new ≡ record { before = bind name 0 old.before; gates = declared_one name old.gates }))
