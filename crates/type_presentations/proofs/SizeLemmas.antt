-- How much is in a presentation that is not too large.
use Rattle.std.proofs.Common.{◌≡◌, ◌≤◌, Bool, true, false, List, length, refl}
use Rattle.std.specs.Prelude.{◌||◌, nat_lt}
use Rattle.std.proofs.lemmas.Bool.{ltb-false}
use Rattle.type_definitions.specs.Presentation.{Presentation, presentation_limit, is_too_large}

abbrev Neither : Bool → Bool → Type 0
Neither a b = (a ≡ false) × (b ≡ false)

neither : (a b : Bool) → (a || b) ≡ false → Neither a b
neither true b e = cc
neither false b e = (refl, e)

pub record IsSmall (p : Presentation) : Type 0 where
  pub sorts : length p.signature.sorts ≤ presentation_limit
  pub operations : length p.signature.operations ≤ presentation_limit
  pub equations : length p.equations ≤ presentation_limit

pub within_limits : (p : Presentation) → is_too_large p ≡ false → IsSmall p
within_limits p e =
    let first =
    neither (nat_lt presentation_limit (length p.signature.sorts))
    (nat_lt presentation_limit (length p.signature.operations) || nat_lt presentation_limit (length p.equations)) e in
    let second =
    neither (nat_lt presentation_limit (length p.signature.operations)) (nat_lt presentation_limit (length p.equations)) first.1 in
    record {
      sorts = ltb-false presentation_limit (length p.signature.sorts) first.0;
      operations = ltb-false presentation_limit (length p.signature.operations) second.0;
      equations = ltb-false presentation_limit (length p.equations) second.1;
    }
