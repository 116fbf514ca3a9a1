-- Numbers with a space between them.
use Rattle.std.proofs.Common.{◌≡◌, ◌≢◌, ◌<◌, ◌≤◌, ◌+◌, ◌*◌, ◌-◌, ◌^◌, ◌==◌, ℕ, suc, zero, List, [], ◌∷◌, ◌++◌, take, drop, length, get_or, true, Option, Some, None, MatchOption, decimal, refl, ap, ap₂, sym, ◌∙◌, subst, arith, add-one}
use Rattle.std.specs.List.{position}
use Rattle.std.specs.Str.{all_ascii_digits}
use Rattle.std.specs.Char.{is_ascii_digit, digit_value}
use Rattle.std.specs.Str.Parse.{digits_value, digits_value_after}
use Rattle.std.proofs.lemmas.Bool.{and_parts}
use Rattle.std.proofs.lemmas.Fmt.{digits_decimal, digits_value-decimal, decimal-digits_value, decimal_digit, decimal_nonempty, first_decimal}
use Rattle.std.proofs.lemmas.List.{drop_more, take_rest, take-append-drop}
use Rattle.std.proofs.lemmas.Str.Parse.{IsNumeralModel, numerals_by_value, tells_all_ascii_digits}
use Rattle.lotos_base.proofs.Digits.{digit_is, digit_value_is}
use Rattle.bisim_check.specs.LineTexts.{two_numbers, IsNoNumber, AreNoNumbers}
use Rattle.bisim_check.proofs.Positions.{IsFirstAt, found, nowhere}

-- ---- Digits

pub numerals : IsNumeralModel (λ (ds : List ℕ). all_ascii_digits ds ≡ true) (digits_value 10)
numerals = numerals_by_value (λ (ds : List ℕ). all_ascii_digits ds ≡ true) tells_all_ascii_digits

wide : (n : ℕ) → n < 2 ^ 32 → n < 2 ^ 64
wide n small = omega (arith, small)

pub written_digits : (n : ℕ) → n < 2 ^ 32 → all_ascii_digits (decimal n) ≡ true
written_digits n small = digits_decimal numerals n (wide n small)

pub written_value : (n : ℕ) → n < 2 ^ 32 → digits_value 10 (decimal n) ≡ n
written_value n small = digits_value-decimal numerals n (wide n small)

-- ---- The space

pub no_blank_digit : (d : ℕ) → is_ascii_digit d ≡ true → d ≡ 32 → ⊥
no_blank_digit d digit blank = omega (arith, (digit_is d digit).0, blank)

-- what stands around the first space behind digits
around_space : (ds more : List ℕ) (k : ℕ) → all_ascii_digits ds ≡ true → get_or (ds ++ (32 ∷ more)) k 0 ≡ 32
    → ((j : ℕ) → j < k → get_or (ds ++ (32 ∷ more)) j 0 ≢ 32)
    → (take k (ds ++ (32 ∷ more)) ≡ ds) × (drop (suc k) (ds ++ (32 ∷ more)) ≡ more)
around_space [] more zero digits here before = (refl, refl)
around_space [] more (suc k) digits here before = absurd (before 0 (omega arith) refl)
around_space (d ∷ ds) more zero digits here before =
    absurd (no_blank_digit d (and_parts (is_ascii_digit d) (all_ascii_digits ds) digits).0 here)
around_space (d ∷ ds) more (suc k) digits here before =
    let rest : (take k (ds ++ (32 ∷ more)) ≡ ds) × (drop (suc k) (ds ++ (32 ∷ more)) ≡ more) =
    around_space ds more k (and_parts (is_ascii_digit d) (all_ascii_digits ds) digits).1 here
    (λ j below. before (suc j) (omega (arith, below))) in
    (ap (λ (it : List ℕ). d ∷ it) rest.0, rest.1)

space_there : (ds more : List ℕ) → get_or (ds ++ (32 ∷ more)) (length ds) 0 ≡ 32
space_there [] more = refl
space_there (d ∷ ds) more = space_there ds more

space_within : (ds more : List ℕ) → length ds < length (ds ++ (32 ∷ more))
space_within [] more = omega arith
space_within (d ∷ ds) more = omega (arith, space_within ds more)

-- the parts of bytes that write two numbers
two_parts : (bytes : List ℕ) (k m n : ℕ) → IsFirstAt bytes 32 k → m < 2 ^ 32 → bytes ≡ two_numbers m n
    → (take k bytes ≡ decimal m) × (drop (k + 1) bytes ≡ decimal n)
two_parts bytes k m n there small e =
    let parts : (take k (two_numbers m n) ≡ decimal m) × (drop (suc k) (two_numbers m n) ≡ decimal n) =
    around_space (decimal m) (decimal n) k (written_digits m small)
    (subst (λ (it : List ℕ). get_or it k 0 ≡ 32) e there.here)
    (subst (λ (it : List ℕ). (j : ℕ) → j < k → get_or it j 0 ≢ 32) e there.before) in
    (ap (take k) e ∙ parts.0, ap (λ (j : ℕ). drop j bytes) (add-one k) ∙ (ap (drop (suc k)) e ∙ parts.1))

pub no_space : (bytes : List ℕ) → None ≡ position (λ b. b == 32) bytes → AreNoNumbers bytes
no_space bytes none m n small small' e =
    nowhere bytes 32 none (length (decimal m))
    (subst (λ (it : List ℕ). length (decimal m) < length it) (sym e) (space_within (decimal m) (decimal n)))
    (subst (λ (it : List ℕ). get_or it (length (decimal m)) 0 ≡ 32) (sym e) (space_there (decimal m) (decimal n)))

pub no_first : (bytes : List ℕ) (k : ℕ) → Some k ≡ position (λ b. b == 32) bytes → IsNoNumber (take k bytes) → AreNoNumbers bytes
no_first bytes k e none m n small small' is = none m small (two_parts bytes k m n (found bytes 32 k e) small is).0

pub no_second : (bytes : List ℕ) (k : ℕ) → Some k ≡ position (λ b. b == 32) bytes
    → IsNoNumber (take (length bytes - (k + 1)) (drop (k + 1) bytes)) → AreNoNumbers bytes
no_second bytes k e none m n small small' is =
    none n small' (take_rest bytes (k + 1) ∙ (two_parts bytes k m n (found bytes 32 k e) small is).1)

pub both_read : (bytes : List ℕ) (k m n : ℕ) → Some k ≡ position (λ b. b == 32) bytes → take k bytes ≡ decimal m
    → take (length bytes - (k + 1)) (drop (k + 1) bytes) ≡ decimal n → bytes ≡ two_numbers m n
both_read bytes k m n e first second =
    let there : IsFirstAt bytes 32 k = found bytes 32 k e in
    let middle : drop k bytes ≡ 32 ∷ drop (k + 1) bytes =
    drop_more bytes k 0 there.within ∙ ap (λ (b : ℕ). b ∷ drop (k + 1) bytes) there.here in
    sym (take-append-drop k bytes) ∙ ap₂ (λ (xs ys : List ℕ). xs ++ ys) first
    (middle ∙ ap (λ (it : List ℕ). 32 ∷ it) (sym (take_rest bytes (k + 1)) ∙ second))

-- ---- One number

pub no_digits : (text : List ℕ) → length text ≡ 0 → IsNoNumber text
no_digits text none n small e = omega (arith, none, ap length e, decimal_nonempty n (wide n small))

-- a longer text with a leading zero
pub leading_zero : (text : List ℕ) → 1 < length text → get_or text 0 0 ≡ 48 → IsNoNumber text
leading_zero text long nought zero small e =
    omega (arith, long, ap length e, ap length (decimal_digit 0 (omega arith)))
leading_zero text long nought (suc n) small e =
    omega (arith, first_decimal (suc n) (omega arith) (wide (suc n) small), ap (λ (it : List ℕ). get_or it 0 0) e, nought)

pub no_value : (text : List ℕ) → (all_ascii_digits text ≡ true → digits_value 10 text < 2 ^ 32 → ⊥) → IsNoNumber text
no_value text none n small e =
    none (ap all_ascii_digits e ∙ written_digits n small)
    (omega (arith, ap (digits_value 10) e, written_value n small, small))

pub one_read : (text : List ℕ) (n : ℕ) → 0 < length text → (get_or text 0 0 ≡ 48 → length text ≡ 1) → all_ascii_digits text ≡ true
    → digits_value 10 text ≡ n → n < 2 ^ 32 → text ≡ decimal n
one_read text n some plain digits value small =
    sym (ap decimal (sym value)
    ∙ decimal-digits_value numerals text digits some plain (omega (arith, value, small)))

-- a text without a leading zero, by what is told of its value
pub value_told : (text : List ℕ) (r : Option ℕ) → 0 < length text → (get_or text 0 0 ≡ 48 → ⊥)
    → MatchOption r (all_ascii_digits text ≡ true → digits_value 10 text < 2 ^ 32 → ⊥)
    (λ n. (all_ascii_digits text ≡ true) × (digits_value 10 text ≡ n) × (n < 2 ^ 32))
    → MatchOption r (IsNoNumber text) (λ n. (text ≡ decimal n) × (n < 2 ^ 32))
value_told text None some plain h = no_value text h
value_told text (Some n) some plain h = (one_read text n some (λ e. absurd (plain e)) h.0 h.1 h.2, h.2)

pub nought_read : (text : List ℕ) → length text ≡ 1 → get_or text 0 0 ≡ 48 → text ≡ decimal 0
nought_read [] one nought = absurd (omega (arith, one))
nought_read (d ∷ []) one nought = ap (λ (b : ℕ). b ∷ []) nought ∙ sym (decimal_digit 0 (omega arith))
nought_read (d ∷ e ∷ text) one nought = absurd (omega (arith, one))

-- ---- Digit by digit

-- more digits make no smaller number
no_smaller : (value : ℕ) (ds : List ℕ) → value ≤ digits_value_after 10 value ds
no_smaller value [] = omega arith
no_smaller value (d ∷ ds) = omega (arith, no_smaller (value * 10 + digit_value d) ds)

pub one_digit : (text : List ℕ) (i value : ℕ) → i < length text → is_ascii_digit (get_or text i 0) ≡ true
    → digits_value_after 10 value (drop i text) ≡ digits_value_after 10 (value * 10 + (get_or text i 0 - 48)) (drop (i + 1) text)
one_digit text i value within digit =
    let range : (48 ≤ get_or text i 0) × (get_or text i 0 ≤ 57) = digit_is (get_or text i 0) digit in
    ap (digits_value_after 10 value) (drop_more text i 0 within)
    ∙ ap (λ (v : ℕ). digits_value_after 10 (value * 10 + v) (drop (i + 1) text)) (digit_value_is (get_or text i 0) range.0 range.1)

pub reaches : (text : List ℕ) (i value : ℕ) → i < length text → is_ascii_digit (get_or text i 0) ≡ true
    → digits_value_after 10 value (drop i text) ≡ digits_value 10 text
    → value * 10 + (get_or text i 0 - 48) ≤ digits_value 10 text
reaches text i value within digit so_far =
    omega (
      arith,
      one_digit text i value within digit,
      so_far,
      no_smaller (value * 10 + (get_or text i 0 - 48)) (drop (i + 1) text),
    )
