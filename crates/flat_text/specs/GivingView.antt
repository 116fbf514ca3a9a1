-- The names that were given so far, as plain values.
use Rattle.std.specs.Prelude.{◌≡◌, ◌<◌, ◌≤◌, ◌++◌, ℕ, List, true, Some, codes}
use Rattle.lotos_base.specs.Names.{folded}
use Rattle.scope_parts.specs.Scope.{Binding, bound_to}
use Rattle.scope_parts.specs.BindingsView.{bindings_in}
use Rattle.flat_text.specs.FreeNames.{has_name, with_number}
use Rattle.flat_text.specs.WritingView.{HasTheseNames}
use Rattle.flat_text.specs.declared.given_names.Giving.{Giving}

-- Two tables have these earlier names and these taken ones. The number that is kept under an earlier name is 2 or more, and all
-- from 2 up to it give taken names.
pub record HaveGiven (known used : List Binding) (earlier taken : List (List ℕ)) : Type 0 where
  pub earlier_names : HasTheseNames known earlier
  pub taken_names : HasTheseNames used taken
  pub low : (name : List ℕ) (number : ℕ) → bound_to known (folded name) ≡ Some number → 2 ≤ number
  pub tried : (name : List ℕ) (number k : ℕ) → bound_to known (folded name) ≡ Some number → 2 ≤ k → k < number
      → has_name taken (with_number (name ++ codes "_") k) ≡ true

abbrev pub HasGiven : Giving → List (List ℕ) → List (List ℕ) → Type 0
HasGiven giving earlier taken = HaveGiven (bindings_in giving.earlier) (bindings_in giving.taken) earlier taken
