-- Numbers that are held below the most.
use Rattle.std.proofs.Common.{◌≡◌, ◌<◌, ◌≤◌, ◌+◌, ◌*◌, ◌-◌, ◌++◌, ℕ, List, [], ◌∷◌, Bool, true, false, drop, length, get_or, nat_lt, Option, refl, ap, sym, ◌∙◌, subst, arith, ltb-true, ltb-false}
use Rattle.std.specs.Prelude.{if◌then◌else◌}
use Rattle.std.specs.Char.{is_ascii_digit, digit_value}
use Rattle.std.specs.List.{list_all}
use Rattle.std.specs.Option.{option_map}
use Rattle.std.specs.Str.Parse.{digits_value_after}
use Rattle.std.proofs.lemmas.Bool.{and_parts}
use Rattle.lotos_base.proofs.Digits.{digit_is, digit_value_is}
use Rattle.lotos_base.proofs.Pieces.{next_member}
use Rattle.induct_check.specs.CertificateLines.{most, at_most, from_nought}

top : (n : ℕ) → most ≤ n → at_most n ≡ most
top n above = by (nat_lt most n) refl
  where
    by : (b : Bool) → nat_lt most n ≡ b → (if b then most else n) ≡ most
    by true e = refl
    by false e = omega (arith, above, ltb-false most n e)

low : (n : ℕ) → n ≤ most → at_most n ≡ n
low n below = by (nat_lt most n) refl
  where
    by : (b : Bool) → nat_lt most n ≡ b → (if b then most else n) ≡ n
    by true e = absurd (omega (arith, below, ltb-true most n e))
    by false e = refl

pub held_top : (n : ℕ) → 4294967295 < n → 4294967295 ≡ at_most n
unfolding most
held_top n above = sym (top n (omega (arith, above)))

pub held_low : (n : ℕ) → n ≤ 4294967295 → n ≡ at_most n
unfolding most
held_low n below = sym (low n (omega (arith, below)))

-- one digit more behind numbers that are held alike
digit_more : (v w d : ℕ) → at_most v ≡ at_most w → at_most (v * 10 + d) ≡ at_most (w * 10 + d)
digit_more v w d same = by (nat_lt most v) (nat_lt most w) refl refl
  where
    by : (b c : Bool) → nat_lt most v ≡ b → nat_lt most w ≡ c → at_most (v * 10 + d) ≡ at_most (w * 10 + d)
    by true true e f =
        top (v * 10 + d) (omega (arith, ltb-true most v e)) ∙ sym (top (w * 10 + d) (omega (arith, ltb-true most w f)))
    by true false e f =
        let is : most ≡ w =
        sym (top v (omega (arith, ltb-true most v e))) ∙ (same ∙ low w (ltb-false most w f)) in
        top (v * 10 + d) (omega (arith, ltb-true most v e)) ∙ sym (top (w * 10 + d) (omega (arith, is)))
    by false true e f =
        let is : v ≡ most =
        sym (low v (ltb-false most v e)) ∙ (same ∙ top w (omega (arith, ltb-true most w f))) in
        top (v * 10 + d) (omega (arith, is)) ∙ sym (top (w * 10 + d) (omega (arith, ltb-true most w f)))
    by false false e f =
        let is : v ≡ w = sym (low v (ltb-false most v e)) ∙ (same ∙ low w (ltb-false most w f)) in
        ap (λ (n : ℕ). at_most (n * 10 + d)) is

pub held_twice : (n : ℕ) → at_most (at_most n) ≡ at_most n
held_twice n = by (nat_lt most n) refl
  where
    by : (b : Bool) → nat_lt most n ≡ b → at_most (at_most n) ≡ at_most n
    by true e =
        let is : at_most n ≡ most = top n (omega (arith, ltb-true most n e)) in
        ap at_most_of is ∙ (top most (omega arith) ∙ sym is)
      where
        at_most_of : ℕ → ℕ
        at_most_of m = at_most m
    by false e = ap (λ (m : ℕ). at_most m) (low n (ltb-false most n e))

digits_more : (ds : List ℕ) (v w : ℕ) → at_most v ≡ at_most w → at_most (digits_value_after 10 v ds) ≡ at_most (digits_value_after 10 w ds)
digits_more [] v w same = same
digits_more (d ∷ ds) v w same =
    digits_more ds (v * 10 + digit_value d) (w * 10 + digit_value d) (digit_more v w (digit_value d) same)

pub record IsValueRead (digits : List ℕ) (index value digit next : ℕ) : Type 0 where
  pub low : 48 ≤ digit
  pub high : digit ≤ 57
  pub rest : list_all is_ascii_digit (drop (index + 1) digits) ≡ true
  pub value_ : next ≡ at_most (value * 10 + (digit - 48))
      → at_most (digits_value_after 10 next (drop (index + 1) digits)) ≡ at_most (digits_value_after 10 value (drop index digits))

pub value_read : (digits : List ℕ) (index value digit next : ℕ) → index < length digits → digit ≡ get_or digits index digit
    → list_all is_ascii_digit (drop index digits) ≡ true → IsValueRead digits index value digit next
value_read digits index value digit next below is all =
    let cut : drop index digits ≡ digit ∷ drop (index + 1) digits = next_member digits index digit below is in
    let parts : (is_ascii_digit digit ≡ true) × (list_all is_ascii_digit (drop (index + 1) digits) ≡ true) =
    and_parts (is_ascii_digit digit) (list_all is_ascii_digit (drop (index + 1) digits))
    (subst (λ (it : List ℕ). list_all is_ascii_digit it ≡ true) cut all) in
    let range : (48 ≤ digit) × (digit ≤ 57) = digit_is digit parts.0 in
    record {
      low = range.0;
      high = range.1;
      rest = parts.1;
      value_ = λ e.
          let here : at_most next ≡ at_most (value * 10 + digit_value digit) =
          ap (λ (n : ℕ). at_most n) e ∙ (held_twice (value * 10 + (digit - 48))
          ∙ ap (λ (n : ℕ). at_most (value * 10 + n)) (sym (digit_value_is digit range.0 range.1))) in
          digits_more (drop (index + 1) digits) next (value * 10 + digit_value digit) here
          ∙ ap (λ (ds : List ℕ). at_most (digits_value_after 10 value ds)) (sym cut);
    }

-- ---- Numbers of several words

-- what the numbers of the rest are behind those that were read
abbrev pub behind_numbers : List ℕ → Option (List ℕ) → Option (List ℕ)
behind_numbers path more = option_map (λ (ns : List ℕ). path ++ ns) more

pub nought_is_most : (n : ℕ) → n ≡ 0 → 4294967295 ≡ from_nought n
unfolding most
nought_is_most n is = ap (λ (k : ℕ). from_nought k) (sym is)
