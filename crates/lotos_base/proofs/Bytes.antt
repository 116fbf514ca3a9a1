-- Bytes: the test of two texts for being the same bytes, letters and digits.
use Rattle.std.proofs.Common.{◌≡◌, ℕ, Bool, true, false, List, refl, sym, ◌∙◌}
use Rattle.std.specs.Str.{bytes_eq}
use Rattle.std.proofs.lemmas.Slice.Eq.{bytes_eq-Decides}
use Rattle.std.proofs.lemmas.Bool.{false_from_ne_true}
use Rattle.std.specs.Char.{is_ascii_alphabetic, is_ascii_digit, is_ascii_alphanumeric}
use Rattle.std.specs.Int.{is_in_range}
use Rattle.std.specs.Prelude.{◌||◌}

pub same_bytes : (one other : List ℕ) → bytes_eq one other ≡ true → one ≡ other
same_bytes one other = (bytes_eq-Decides one other).0

pub bytes_same : (one other : List ℕ) → one ≡ other → bytes_eq one other ≡ true
bytes_same one other = (bytes_eq-Decides one other).1

pub differing_bytes : (one other : List ℕ) → bytes_eq one other ≡ false → ¬ (one ≡ other)
differing_bytes one other test same = let both : true ≡ false = sym (bytes_same one other same) ∙ test in cc

pub bytes_differ : (one other : List ℕ) → ¬ (one ≡ other) → bytes_eq one other ≡ false
bytes_differ one other differ = false_from_ne_true (bytes_eq one other) (λ same. differ (same_bytes one other same))

pub bytes_turned : (one other : List ℕ) → bytes_eq one other ≡ bytes_eq other one
bytes_turned one other = go (bytes_eq one other) refl
  where
    go : (b : Bool) → bytes_eq one other ≡ b → b ≡ bytes_eq other one
    go true is = sym (bytes_same other one (sym (same_bytes one other is)))
    go false is = sym (bytes_differ other one (λ same. differing_bytes one other is (sym same)))

-- ---- Letters and digits.

pub letter_or_digit : (b : ℕ) → is_ascii_alphabetic b ≡ true → is_ascii_alphanumeric b ≡ true
letter_or_digit b letter = three (is_in_range 48 57 b) (is_in_range 65 90 b) (is_in_range 97 122 b) letter
  where
    three : (digit upper lower : Bool) → (upper || lower) ≡ true → ((digit || upper) || lower) ≡ true
    three true upper lower h = refl
    three false upper lower h = h

pub digit_or_letter : (b : ℕ) → is_ascii_digit b ≡ true → is_ascii_alphanumeric b ≡ true
digit_or_letter b digit = rw digit refl
