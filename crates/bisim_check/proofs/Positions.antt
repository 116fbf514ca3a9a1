-- The first position of a byte.
use Rattle.std.proofs.Common.{◌≡◌, ◌≢◌, ◌<◌, ◌==◌, ℕ, List, length, get_or, Bool, true, false, cond, nat_lt, Some, None, refl, ap, sym, ◌∙◌, arith, eqb-true, ltb-false}
use Rattle.std.specs.List.{position, position_or_len}
use Rattle.std.proofs.lemmas.List.Quantifiers.{position-Some}
use Rattle.std.proofs.lemmas.List.Sums.{fails_before_first}
use Rattle.std.proofs.lemmas.Bool.{false≢true}

-- where a test fails, the byte is another
other_byte : (byte b : ℕ) → (b == byte) ≡ false → b ≡ byte → ⊥
other_byte byte b fails e = false≢true (sym fails ∙ (ap (λ (x : ℕ). x == byte) e ∙ itself byte))
  where
    itself : (n : ℕ) → (n == n) ≡ true
    itself n = grind arith

pub record IsFirstAt (bytes : List ℕ) (byte k : ℕ) : Type 0 where
  pub within : k < length bytes
  pub here : get_or bytes k 0 ≡ byte
  pub before : (j : ℕ) → j < k → get_or bytes j 0 ≢ byte

pub found : (bytes : List ℕ) (byte k : ℕ) → Some k ≡ position (λ b. b == byte) bytes → IsFirstAt bytes byte k
found bytes byte k e =
    let h : (k < length bytes) × ((get_or bytes k 0 == byte) ≡ true) × ((j : ℕ) → j < k → (get_or bytes j 0 == byte) ≡ false) =
    position-Some (λ b. b == byte) bytes k 0 (sym e) in
    record {
      within = h.0;
      here = eqb-true (get_or bytes k 0) byte h.1;
      before = λ j below. other_byte byte (get_or bytes j 0) (h.2 j below);
    }

pub nowhere : (bytes : List ℕ) (byte : ℕ) → None ≡ position (λ b. b == byte) bytes → (k : ℕ) → k < length bytes
    → get_or bytes k 0 ≢ byte
nowhere bytes byte none k within =
    by (nat_lt (position_or_len (λ b. b == byte) bytes) (length bytes)) refl none
  where
    by : (t : Bool) → nat_lt (position_or_len (λ b. b == byte) bytes) (length bytes) ≡ t
        → None ≡ cond t (Some (position_or_len (λ b. b == byte) bytes)) None → get_or bytes k 0 ≢ byte
    by true e absent = absurd (cc absent)
    by false e absent =
        other_byte byte (get_or bytes k 0) (fails_before_first (λ b. b == byte) bytes k 0
        (omega (arith, within, ltb-false (position_or_len (λ b. b == byte) bytes) (length bytes) e)))
