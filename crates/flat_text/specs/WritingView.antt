-- What the code looks up while it writes a flat text, as plain values.
use Rattle.std.specs.Prelude.{◌≡◌, ◌<◌, ◌≤◌, ℕ, List, true, false, Some, slice_get, length}
use Rattle.lotos_base.specs.Names.{folded}
use Rattle.scope_parts.specs.Scope.{Binding, bound_to, is_bound}
use Rattle.sort_terms.specs.declared.equations.Equation.{Equation}
use Rattle.flat_text.specs.FreeNames.{has_name, with_number}

-- The table has these names and no others, and as many entries as there are names.
pub record HasTheseNames (bindings : List Binding) (names : List (List ℕ)) : Type 0 where
  pub same : (name : List ℕ) → is_bound bindings name ≡ has_name names name
  pub as_many : length bindings ≡ length names

-- The number is the least, from another one on, that gives the word a name that is not in the table.
pub record IsLeastUnbound (bindings : List Binding) (word : List ℕ) (number found : ℕ) : Type 0 where
  pub from : number ≤ found
  pub free : is_bound bindings (with_number word found) ≡ false
  pub least : (k : ℕ) → number ≤ k → k < found → is_bound bindings (with_number word k) ≡ true

-- No equation has more variables.
abbrev pub HaveAtMost : ℕ → List Equation → Type 0
HaveAtMost most equations = (i : ℕ) (equation : Equation) → slice_get equations i ≡ Some equation → length equation.variables.items ≤ most
