-- Bytes cut at a separator.
use Rattle.std.proofs.lemmas.List.{take_rest}
use Rattle.std.proofs.Common.{◌≡◌, ◌<◌, ◌+◌, ◌-◌, ◌==◌, add-one, length-drop, ℕ, suc, zero, List, [], ◌∷◌, take, drop, length, get_or, Bool, true, false, cond, nat_lt, if◌then◌else◌, Some, None, refl, ap, sym, ◌∙◌, arith, ltb-false}
use Rattle.std.specs.List.{position, position_or_len}
use Rattle.std.proofs.lemmas.List.Quantifiers.{position-Some}
use Rattle.std.proofs.lemmas.List.Sums.{fails_before_first}
use Rattle.induct_check.specs.CertificateLines.{byte_before, parts_at}

-- the parts of bytes of which the first is another byte than the separator
behind_other : (separator byte : ℕ) (bytes : List ℕ) → (byte == separator) ≡ false
    → parts_at separator (byte ∷ bytes) ≡ byte_before byte (parts_at separator bytes)
behind_other separator byte bytes other =
    ap (λ (b : Bool). if b then [] ∷ parts_at separator bytes else byte_before byte (parts_at separator bytes)) other

whole : (separator : ℕ) (bytes : List ℕ) → ((k : ℕ) → k < length bytes → (get_or bytes k 0 == separator) ≡ false)
    → parts_at separator bytes ≡ bytes ∷ []
whole separator [] none = refl
whole separator (byte ∷ bytes) none =
    behind_other separator byte bytes (none 0 (omega arith))
    ∙ ap (byte_before byte) (whole separator bytes (λ k within. none (suc k) (omega (arith, within))))

cut : (separator : ℕ) (bytes : List ℕ) (k : ℕ) → k < length bytes → (get_or bytes k 0 == separator) ≡ true
    → ((j : ℕ) → j < k → (get_or bytes j 0 == separator) ≡ false)
    → parts_at separator bytes ≡ take k bytes ∷ parts_at separator (drop (suc k) bytes)
cut separator [] k within here before = absurd (omega (arith, within))
cut separator (byte ∷ bytes) zero within here before =
    ap (λ (b : Bool). if b then [] ∷ parts_at separator bytes else byte_before byte (parts_at separator bytes)) here
cut separator (byte ∷ bytes) (suc k) within here before =
    behind_other separator byte bytes (before 0 (omega arith))
    ∙ ap (byte_before byte) (cut separator bytes k (omega (arith, within)) here (λ j below. before (suc j) (omega (arith, below))))

pub one_part : (separator : ℕ) (bytes : List ℕ) → None ≡ position (λ b. b == separator) bytes → parts_at separator bytes ≡ bytes ∷ []
one_part separator bytes none =
    whole separator bytes (λ k within. by k within (nat_lt (position_or_len (λ b. b == separator) bytes) (length bytes)) refl none)
  where
    by : (k : ℕ) → k < length bytes → (t : Bool) → nat_lt (position_or_len (λ b. b == separator) bytes) (length bytes) ≡ t
        → None ≡ cond t (Some (position_or_len (λ b. b == separator) bytes)) None → (get_or bytes k 0 == separator) ≡ false
    by k within true e absent = absurd (cc absent)
    by k within false e absent =
        fails_before_first (λ b. b == separator) bytes k 0
        (omega (arith, within, ltb-false (position_or_len (λ b. b == separator) bytes) (length bytes) e))

first_part : (separator : ℕ) (bytes : List ℕ) (k : ℕ) → Some k ≡ position (λ b. b == separator) bytes
    → parts_at separator bytes ≡ take k bytes ∷ parts_at separator (drop (suc k) bytes)
first_part separator bytes k e =
    let h : (k < length bytes) × ((get_or bytes k 0 == separator) ≡ true)
    × ((j : ℕ) → j < k → (get_or bytes j 0 == separator) ≡ false) =
    position-Some (λ b. b == separator) bytes k 0 (sym e) in
    cut separator bytes k h.0 h.1 h.2

pub part_cut : (separator : ℕ) (bytes : List ℕ) (k : ℕ) → Some k ≡ position (λ b. b == separator) bytes
    → parts_at separator bytes ≡ take k bytes ∷ parts_at separator (take (length bytes - (k + 1)) (drop (k + 1) bytes))
part_cut separator bytes k e =
    first_part separator bytes k e
    ∙ ap (λ (it : List ℕ). take k bytes ∷ parts_at separator it)
    (ap (λ (j : ℕ). drop j bytes) (sym (add-one k)) ∙ sym (take_rest bytes (k + 1)))

pub short_cut : (separator : ℕ) (bytes : List ℕ) (k : ℕ) → Some k ≡ position (λ b. b == separator) bytes
    → length (take (length bytes - (k + 1)) (drop (k + 1) bytes)) < length bytes
short_cut separator bytes k e =
    let h : (k < length bytes) × ((get_or bytes k 0 == separator) ≡ true)
    × ((j : ℕ) → j < k → (get_or bytes j 0 == separator) ≡ false) =
    position-Some (λ b. b == separator) bytes k 0 (sym e) in
    omega (arith, h.0, ap length (take_rest bytes (k + 1)), length-drop (k + 1) bytes)
