-- Truth values.
use Rattle.std.proofs.Common.{◌≡◌, Bool, true, false, refl, sym}
use Rattle.std.specs.Prelude.{not, ◌||◌}

pub same_truth : (a b : Bool) → (a ≡ true → b ≡ true) → (b ≡ true → a ≡ true) → a ≡ b
same_truth true b there back = sym (there refl)
same_truth false true there back = back refl
same_truth false false there back = refl

-- a test and its negation
pub not_both : (b : Bool) → not b ≡ true → b ≡ true → ⊥
not_both true e h = absurd (cc e)
not_both false e h = absurd (cc h)

pub true_unless : (b : Bool) → (b ≡ true → ⊥) → not b ≡ true
true_unless true never = absurd (never refl)
true_unless false never = refl

pub second_alone : (x y : Bool) → x ≡ false → (x || y) ≡ y
second_alone x y h = rw h refl

-- what holds of everything
pub unit : Unit {0}
unit = tt
