-- The sides of each equation of the code's data are of the signature and have one sort.
use Rattle.std.specs.Prelude.{◌≡◌, ℕ, Some, slice_get}
use Rattle.lotos_base.specs.Signature.{Signature}
use Rattle.sort_terms.specs.ProfiledTerm.{IsOf, head_sort}
use Rattle.sort_terms.specs.SignatureView.{signature_of}
use Rattle.sort_terms.specs.SortedView.{profiled_in}
use Rattle.sort_terms.specs.declared.equations.Equation.{Equation}
use Rattle.sort_terms.specs.declared.equations.Flat.{Flat}

-- The sides of the equation are of the signature and have one sort.
pub record IsSortedEquation (signature : Signature) (equation : Equation) : Type 0 where
  pub left_is_of : IsOf signature (profiled_in equation.left)
  pub right_is_of : IsOf signature (profiled_in equation.right)
  pub one_sort : head_sort (profiled_in equation.left) ≡ head_sort (profiled_in equation.right)

-- Those of each equation of the data are so.
abbrev pub AreSortedSides : Flat → Type 0
AreSortedSides flat = (k : ℕ) (equation : Equation) → slice_get flat.equations.items k ≡ Some equation
    → IsSortedEquation (signature_of flat.signature) equation
