-- Twins: operations that a written application does not tell apart unless its sort is written too.
use Rattle.std.specs.Prelude.{◌≡◌, ◌≢◌, ℕ, Bool, true, false, ◌&&◌, not, nat_eq}
use Rattle.std.specs.List.{list_any}
use Rattle.std.specs.Str.{bytes_eq}
use Rattle.lotos_base.specs.Names.{folded, AreOneName}
use Rattle.lotos_base.specs.Signature.{Form, prefix_form, infix_form, Operation, Signature, IsOperation}

-- Two operations are twins: they have one name, one form and the same argument sorts, and other result sorts (ISO
-- 8807, overloading of operations).
pub record AreTwins (one other : Operation) : Type 0 where
  pub name : AreOneName one.name other.name
  pub form : one.form ≡ other.form
  pub arguments : one.arguments ≡ other.arguments
  pub results : one.result ≢ other.result

-- The operation has a twin in the signature.
abbrev pub HasTwin : Signature → Operation → Type 0
HasTwin signature operation = (number : ℕ) × (other : Operation) × IsOperation signature number other × AreTwins operation other

-- ---- Tests that compute. `bytes_eq` compares two lists of numbers.

-- Whether the two forms are one.
abbrev pub form_eq : Form → Form → Bool
form_eq prefix_form prefix_form = true
form_eq prefix_form infix_form = false
form_eq infix_form prefix_form = false
form_eq infix_form infix_form = true

-- Whether two operations are twins.
abbrev pub are_twins : Operation → Operation → Bool
are_twins one other =
    (bytes_eq (folded one.name) (folded other.name) && form_eq one.form other.form)
    && (bytes_eq one.arguments other.arguments && not (nat_eq one.result other.result))

-- Whether the operation has a twin in the signature.
abbrev pub has_twin : Signature → Operation → Bool
has_twin signature operation = list_any (are_twins operation) signature.operations
