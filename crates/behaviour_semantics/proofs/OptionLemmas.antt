-- What a computed option says of its parts.
use Rattle.std.proofs.Common.{◌≡◌, None, Some, unwrap_or, ap, refl, Bool, true, false, if◌then◌else◌}
pub use Rattle.lotos_base.proofs.Options.{mapped, chained}

-- The value of a `Some` is the value.
pub some_value : {X : Type 0} {x y : X} → Some x ≡ Some y → x ≡ y
some_value {x = x} e = ap (λ o. unwrap_or o x) e

-- Which way a test went that gave a value.
pub tested : {X : Type 0} (b : Bool) (x : X) {y : X} → (if b then Some x else None) ≡ Some y → (b ≡ true) × (x ≡ y)
tested true x e = (refl, some_value e)
tested false x e = absurd (cc)

pub tested_not : {X : Type 0} (b : Bool) (x : X) {y : X} → (if b then None else Some x) ≡ Some y → (b ≡ false) × (x ≡ y)
tested_not false x e = (refl, some_value e)
tested_not true x e = absurd (cc)
