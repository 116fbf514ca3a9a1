-- Marks that say of the operations of a signature whether they have twins.
use Rattle.std.specs.Prelude.{◌≡◌, ℕ, Bool, List, Some, map, slice_get}
use Rattle.std.specs.List.{list_any}
use Rattle.lotos_base.specs.Signature.{Operation, Signature}
use Rattle.lotos_base.specs.Twins.{are_twins, has_twin}

-- Each mark says whether the operation at its position has a twin in the signature.
abbrev pub AreTwinMarks : Signature → List Bool → Type 0
AreTwinMarks signature marks =
    (number : ℕ) (operation : Operation) (mark : Bool) → Some operation ≡ slice_get signature.operations number
    → slice_get marks number ≡ Some mark → mark ≡ has_twin signature operation

-- the marks of all these operations, in their order
abbrev pub twin_marks : List Operation → List Bool
twin_marks operations = map (λ operation. list_any (are_twins operation) operations) operations
