-- That what is known of the operations of a signature is so: whether they have twins.
use Rattle.std.specs.Prelude.{◌≡◌, ℕ, Bool, Option, Some, slice_get}
use Rattle.lotos_base.specs.Signature.{Operation, Signature}
use Rattle.lotos_base.specs.Twins.{has_twin}

-- What is known of the operation with a number is whether it has a twin.
abbrev pub AreKnownOf : Signature → (ℕ → Option Bool) → Type 0
AreKnownOf signature known =
    (number : ℕ) (operation : Operation) (found : Bool) → Some operation ≡ slice_get signature.operations number
    → known number ≡ Some found → found ≡ has_twin signature operation
