-- The equations of a list of equations, that its keys are theirs, and what the terms of their sides carry.
use Rattle.std.specs.Prelude.{◌≡◌, ℕ, List, [], Some, map, slice_get}
use Rattle.std.specs.Str.{bytes_eq}
use Rattle.lotos_base.specs.Signature.{Signature, Operation}
use Rattle.lotos_base.specs.Equation.{Equation}
use Rattle.sort_terms.specs.EquationView.{equation_of}
use Rattle.sort_terms.specs.ProfiledTerm.{IsOf}
use Rattle.sort_terms.specs.SortedView.{profiled_in}
use Rattle.sort_terms.specs.declared.equations.Equation.{Equation as CodeEquation}
use Rattle.type_definitions.specs.ProfiledImage.{KeepsProfiles, profiled_image}
use Rattle.type_definitions.specs.Presentation.{with_new}
use Rattle.type_presentations.specs.KeyView.{keys_in_set}
use Rattle.type_presentations.specs.EquationKeys.{equation_key}
use Rattle.type_presentations.specs.declared.equation_list.EquationList.{EquationList}

-- the equations in their order
abbrev pub equations_in : EquationList → List Equation
equations_in list = map equation_of list.equations.items

-- The keys are those of the equations, each once.
abbrev pub HasEquationKeys : EquationList → Type 0
HasEquationKeys list = keys_in_set list.keys ≡ with_new bytes_eq [] (map equation_key (equations_in list))

-- Each operation in the sides of the equations becomes one whose sorts are the images of its own.
abbrev pub AllKeepProfiles : (ℕ → ℕ) → (ℕ → ℕ) → List Operation → List CodeEquation → Type 0
AllKeepProfiles to_sort to_operation operations equations =
    (i : ℕ) (equation : CodeEquation) → slice_get equations i ≡ Some equation
    → KeepsProfiles to_sort to_operation operations (profiled_in equation.left)
    × KeepsProfiles to_sort to_operation operations (profiled_in equation.right)

-- The sides of the equation are of the signature, and so carry its profiles.
abbrev pub HasSidesOver : Signature → CodeEquation → Type 0
HasSidesOver signature equation = IsOf signature (profiled_in equation.left) × IsOf signature (profiled_in equation.right)

-- The sides of each equation are.
abbrev pub HaveSidesOf : Signature → List CodeEquation → Type 0
HaveSidesOf signature equations =
    (i : ℕ) (equation : CodeEquation) → slice_get equations i ≡ Some equation → HasSidesOver signature equation

-- The images of the sides of each equation are of the signature.
abbrev pub ImagesAreOf : (ℕ → ℕ) → (ℕ → ℕ) → List Operation → Signature → List CodeEquation → Type 0
ImagesAreOf to_sort to_operation operations signature equations =
    (i : ℕ) (equation : CodeEquation) → slice_get equations i ≡ Some equation
    → IsOf signature (profiled_image to_sort to_operation operations (profiled_in equation.left))
    × IsOf signature (profiled_image to_sort to_operation operations (profiled_in equation.right))
