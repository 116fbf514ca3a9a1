-- The number of the sort `Bool`, where it has a constant `true`.
use Rattle.std.specs.Prelude.{◌≡◌, ℕ, true, false, Option, None, Some}
use Rattle.type_definitions.specs.Presentation.{Presentation}
use Rattle.type_definitions.specs.DeclaredEquations.{bool_sort, has_truth}

-- There is none, or this is its number.
abbrev pub IsTruth : Presentation → Option ℕ → Type 0
IsTruth p None = has_truth p ≡ false
IsTruth p (Some sort) = (has_truth p ≡ true) × (sort ≡ bool_sort p)
