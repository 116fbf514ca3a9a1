-- Words and runs of signs at the beginning of bytes.
use Rattle.std.proofs.Common.{◌≡◌, ℕ, zero, suc, ◌+◌, ◌≤◌, Bool, true, false, cond, if◌then◌else◌, List, [], ◌∷◌, take, length, refl, ap, ◌∙◌, arith}
use Rattle.std.specs.Prelude.{◌==◌}
use Rattle.std.specs.List.{prefix_len}
use Rattle.std.specs.Char.{is_ascii_alphanumeric}
use Rattle.lotos_lexer.specs.Bytes.{first_is}
use Rattle.lotos_lexer.specs.Lexemes.{underscore_before, word_length}

pub word_again : (bytes : List ℕ) → word_length (take (word_length bytes) bytes) ≡ word_length bytes
word_again [] = refl
word_again (byte ∷ rest) = by (is_ascii_alphanumeric byte) refl (byte == 95) refl (word_length rest) refl (word_again rest)
  where
    by : (letter : Bool) → is_ascii_alphanumeric byte ≡ letter → (line : Bool) → (byte == 95) ≡ line → (n : ℕ) → word_length rest ≡ n
        → word_length (take n rest) ≡ n
        → word_length (take (if letter then suc n else if line then underscore_before n else 0) (byte ∷ rest))
        ≡ (if letter then suc n else if line then underscore_before n else 0)
    by true letter line_ is_line n is again =
        ap (λ (b : Bool). if b
        then suc (word_length (take n rest))
        else if byte == 95 then underscore_before (word_length (take n rest)) else 0)
        letter
        ∙ ap suc again
    by false letter true is_line zero is again = refl
    by false letter true is_line (suc n) is again =
        ap (λ (b : Bool). if b
        then suc (word_length (take (suc n) rest))
        else if byte == 95 then underscore_before (word_length (take (suc n) rest)) else 0)
        letter
        ∙ (ap (λ (b : Bool). if b then underscore_before (word_length (take (suc n) rest)) else 0) is_line
        ∙ ap underscore_before again)
    by false letter false is_line n is again = refl

pub run_within : (test : ℕ → Bool) (bytes : List ℕ) → prefix_len test bytes ≤ length bytes
run_within test [] = omega arith
run_within test (byte ∷ rest) = by (test byte) (run_within test rest)
  where
    by : (here : Bool) → prefix_len test rest ≤ length rest → cond here (1 + prefix_len test rest) 0 ≤ length (byte ∷ rest)
    by true h = omega (arith, h)
    by false h = omega arith

pub run_again : (test : ℕ → Bool) (bytes : List ℕ) → prefix_len test (take (prefix_len test bytes) bytes) ≡ prefix_len test bytes
run_again test [] = refl
run_again test (byte ∷ rest) = by (test byte) refl (run_again test rest)
  where
    by : (here : Bool) → test byte ≡ here → prefix_len test (take (prefix_len test rest) rest) ≡ prefix_len test rest
        → prefix_len test (take (cond here (1 + prefix_len test rest) 0) (byte ∷ rest)) ≡ cond here (1 + prefix_len test rest) 0
    by true is again =
        let one : 1 + prefix_len test rest ≡ suc (prefix_len test rest) = omega arith in
        ap (λ (n : ℕ). prefix_len test (take n (byte ∷ rest))) one
        ∙ (ap (λ (b : Bool). cond b (1 + prefix_len test (take (prefix_len test rest) rest)) 0) is
        ∙ ap (λ (n : ℕ). 1 + n) again)
    by false is again = refl

-- so many bytes of a list are so many
pub taken_long : (n : ℕ) (bytes : List ℕ) → n ≤ length bytes → length (take n bytes) ≡ n
taken_long zero bytes h = refl
taken_long (suc n) [] h = absurd (omega (arith, h))
taken_long (suc n) (byte ∷ rest) h = ap suc (taken_long n rest (omega (arith, h)))

-- the first byte stays where a byte is taken
pub first_stays : (test : ℕ → Bool) (n : ℕ) (bytes : List ℕ) → first_is test bytes ≡ true → 1 ≤ n → first_is test (take n bytes) ≡ true
first_stays test zero bytes is some = absurd (omega (arith, some))
first_stays test (suc n) [] is some = is
first_stays test (suc n) (byte ∷ rest) is some = is

pub word_some : (bytes : List ℕ) → first_is is_ascii_alphanumeric bytes ≡ true → 1 ≤ word_length bytes
word_some [] is = absurd (cc is)
word_some (byte ∷ rest) is = by (is_ascii_alphanumeric byte) is
  where
    by : (letter : Bool) → letter ≡ true
        → 1 ≤ (if letter then suc (word_length rest) else if byte == 95 then underscore_before (word_length rest) else 0)
    by true is = omega arith
    by false is = absurd (cc is)

pub run_some : (test : ℕ → Bool) (bytes : List ℕ) → first_is test bytes ≡ true → 1 ≤ prefix_len test bytes
run_some test [] is = absurd (cc is)
run_some test (byte ∷ rest) is = by (test byte) is
  where
    by : (here : Bool) → here ≡ true → 1 ≤ cond here (1 + prefix_len test rest) 0
    by true is = omega arith
    by false is = absurd (cc is)

pub first_alphanumeric : (test : ℕ → Bool) → ((byte : ℕ) → test byte ≡ true → is_ascii_alphanumeric byte ≡ true) → (bytes : List ℕ)
    → first_is test bytes ≡ true → first_is is_ascii_alphanumeric bytes ≡ true
first_alphanumeric test so [] is = is
first_alphanumeric test so (byte ∷ rest) is = so byte is
