-- Decimal digits and the numbers that they make.
use Rattle.std.proofs.Common.{◌≡◌, ℕ, ◌+◌, ◌*◌, ◌-◌, ◌^◌, ◌<◌, ◌≤◌, Bool, true, false, cond, nat_lt, nat_le, refl, ap, ◌∙◌, arith, add-one, pow-suc, leb-true, ltb-true, ltb-false}
use Rattle.std.specs.Char.{is_ascii_digit, digit_value}
use Rattle.std.proofs.lemmas.Bool.{and_parts}

pub digit_is : (byte : ℕ) → is_ascii_digit byte ≡ true → (48 ≤ byte) × (byte ≤ 57)
digit_is byte h =
    let parts : (nat_le 48 byte ≡ true) × (nat_le byte 57 ≡ true) = and_parts (nat_le 48 byte) (nat_le byte 57) h in
    (leb-true 48 byte parts.0, leb-true byte 57 parts.1)

pub digit_value_is : (byte : ℕ) → 48 ≤ byte → byte ≤ 57 → digit_value byte ≡ byte - 48
digit_value_is byte low high = by (nat_lt byte 48) (nat_lt byte 58) refl refl
  where
    by : (a b : Bool) → nat_lt byte 48 ≡ a → nat_lt byte 58 ≡ b
        → cond a 36 (cond b (byte - 48) (cond (nat_lt byte 65) 36 (cond (nat_lt byte 91) (byte - 55) (cond (nat_lt byte 97) 36
        (cond (nat_lt byte 123) (byte - 87) 36))))) ≡ byte - 48
    by true b p q = absurd (omega (arith, low, ltb-true byte 48 p))
    by false true p q = refl
    by false false p q = absurd (omega (arith, high, ltb-false byte 58 q))

-- a number of so many digits, with one digit more, and with nine
pub one_digit_more : (index value digit : ℕ) → value < 10 ^ index → digit ≤ 57 → 48 ≤ digit
    → value * 10 + (digit - 48) < 10 ^ (index + 1)
one_digit_more index value digit below high low =
    let next : 10 ^ (index + 1) ≡ 10 ^ index * 10 = ap (λ (n : ℕ). 10 ^ n) (add-one index) ∙ pow-suc 10 index in
    omega (arith, next, below, high, low)
