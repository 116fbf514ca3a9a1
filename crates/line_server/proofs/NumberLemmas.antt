-- The numbers in lines.
use Rattle.std.proofs.Common.{◌≡◌, ◌<◌, ◌≤◌, ◌+◌, ◌*◌, ◌-◌, ◌^◌, ℕ, List, ◌∷◌, drop, length, get_or, true, ap, ◌∙◌, arith, lt_of_lt_of_le, subst}
use Rattle.std.specs.List.{list_all}
use Rattle.std.specs.Char.{is_ascii_digit}
use Rattle.std.specs.Str.Parse.{digits_value_after}
use Rattle.std.proofs.Math.Nat.{pow-le-pow_right}
use Rattle.std.proofs.lemmas.Bool.{and_parts}
use Rattle.lotos_base.proofs.Pieces.{next_member}
use Rattle.lotos_base.proofs.Digits.{digit_is, digit_value_is}

pub record IsDigitRead (digits : List ℕ) (index value digit : ℕ) : Type 0 where
  pub value_ : digits_value_after 10 value (drop index digits) ≡ digits_value_after 10 (value * 10 + (digit - 48)) (drop (index + 1) digits)
  pub low : 48 ≤ digit
  pub high : digit ≤ 57
  pub rest : list_all is_ascii_digit (drop (index + 1) digits) ≡ true

pub digit_read : (digits : List ℕ) (index value digit : ℕ) → index < length digits → digit ≡ get_or digits index digit
    → list_all is_ascii_digit (drop index digits) ≡ true → IsDigitRead digits index value digit
digit_read digits index value digit below is all =
    let cut : drop index digits ≡ digit ∷ drop (index + 1) digits = next_member digits index digit below is in
    let parts : (is_ascii_digit digit ≡ true) × (list_all is_ascii_digit (drop (index + 1) digits) ≡ true) =
    and_parts (is_ascii_digit digit) (list_all is_ascii_digit (drop (index + 1) digits))
    (subst (λ (it : List ℕ). list_all is_ascii_digit it ≡ true) cut all) in
    let range : (48 ≤ digit) × (digit ≤ 57) = digit_is digit parts.0 in
    record {
      value_ = ap (digits_value_after 10 value) cut
          ∙ ap (λ (d : ℕ). digits_value_after 10 (value * 10 + d) (drop (index + 1) digits)) (digit_value_is digit range.0 range.1);
      low = range.0;
      high = range.1;
      rest = parts.1;
    }

-- a number of fewer than ten digits is below a thousand million
pub fits_ten : (index value : ℕ) → index < 10 → value < 10 ^ index → value < 1000000000
fits_ten index value small below = lt_of_lt_of_le below (pow-le-pow_right {n = 10} (omega arith) {i = index} {j = 9} (omega (arith, small)))
