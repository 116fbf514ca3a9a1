-- That sides are sorted has at most one proof, as facts kept beside code must; and such data have sorted sides.
use Rattle.std.specs.Prelude.{◌≡◌, ℕ, Some, slice_get, List, [], ◌∷◌, zero, suc, map, refl}
use Rattle.std.proofs.Props.{props}
use Rattle.std.proofs.Common.{sym, subst}
use Rattle.std.proofs.lemmas.Option.{none-some, same_Some}
use Rattle.lotos_base.specs.Equation.{Equation as PlainEquation, HasSortedSides, HasOneSort}
use Rattle.lotos_base.specs.Signature.{Signature}
use Rattle.lotos_base.specs.Sorting.{HasSort}
use Rattle.sort_terms.specs.EquationView.{data_of, equation_of}
use Rattle.sort_terms.specs.ProfiledTerm.{head_sort, bare}
use Rattle.sort_terms.specs.SignatureView.{signature_of}
use Rattle.sort_terms.specs.SortedView.{profiled_in}
use Rattle.sort_terms.proofs.ProfiledTermLemmas.{fitting_has_sort}
use Rattle.sort_terms.specs.declared.equations.Equation.{Equation}
use Rattle.sort_terms.specs.declared.equations.Flat.{Flat}
use Rattle.path_order.specs.RuleSides.{IsOf-prop}
use Rattle.equation_book.specs.SortedSides.{IsSortedEquation, AreSortedSides}

-- ---- The fact has at most one proof, as facts kept beside code must.

pub IsSortedEquation-prop : (signature : Signature) (equation : Equation) → IsProp (IsSortedEquation signature equation)
IsSortedEquation-prop signature equation =
    hlevel (props, IsOf-prop signature (profiled_in equation.left), IsOf-prop signature (profiled_in equation.right))

pub AreSortedSides-prop : (flat : Flat) → IsProp (AreSortedSides flat)
AreSortedSides-prop flat = let one = IsSortedEquation-prop (signature_of flat.signature) in hlevel (props, one)

-- ---- Such data have sorted sides.

equation_there : (xs : List Equation) (k : ℕ) (plain : PlainEquation) → slice_get (map equation_of xs) k ≡ Some plain
    → (one : Equation) × (slice_get xs k ≡ Some one) × (equation_of one ≡ plain)
equation_there [] k plain is = absurd (none-some plain is)
equation_there (x ∷ xs) zero plain is = (x, refl, same_Some (equation_of x) plain is)
equation_there (x ∷ xs) (suc k) plain is = equation_there xs k plain is

one_sort_of : (signature : Signature) (equation : Equation) → IsSortedEquation signature equation
    → HasOneSort signature (equation_of equation)
one_sort_of signature equation sorted = record {
  sort = head_sort (profiled_in equation.left);
  left = fitting_has_sort signature (profiled_in equation.left) sorted.left_is_of equation.left.fits;
  right = subst (λ (s : ℕ). HasSort signature (bare (profiled_in equation.right)) s) (sym sorted.one_sort)
      (fitting_has_sort signature (profiled_in equation.right) sorted.right_is_of equation.right.fits);
}

pub sorted_sides : (flat : Flat) → AreSortedSides flat → HasSortedSides (data_of flat)
sorted_sides flat sorted = λ plain is.
    let there = equation_there flat.equations.items is.0 plain is.1 in
    subst (λ (e : PlainEquation). HasOneSort (signature_of flat.signature) e) there.2
    (one_sort_of (signature_of flat.signature) there.0 (sorted is.0 there.0 there.1))
