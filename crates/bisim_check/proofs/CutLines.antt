-- The first line of a text.
use Rattle.std.proofs.Common.{◌≡◌, ◌≢◌, ◌<◌, ◌+◌, ◌-◌, ◌==◌, ℕ, suc, zero, List, [], ◌∷◌, take, drop, length, get_or, Bool, Some, None, nat_eq, if◌then◌else◌, ap, sym, ◌∙◌, arith, add-one, ne_eqb}
use Rattle.std.specs.List.{position}
use Rattle.std.proofs.Math.Seq.{drop-length}
use Rattle.std.proofs.lemmas.List.{take_rest}
use Rattle.session_histories.specs.TraceLine.{with_first, lines_of}
use Rattle.bisim_check.proofs.Positions.{IsFirstAt, found, nowhere}

-- the lines of a text that begins with another byte than a line feed
on_line : (byte : ℕ) (bytes : List ℕ) → byte ≢ 10 → lines_of (byte ∷ bytes) ≡ with_first byte (lines_of bytes)
on_line byte bytes other =
    ap (λ (b : Bool). if b then [] ∷ lines_of bytes else with_first byte (lines_of bytes)) (ne_eqb 10 byte (λ e. other (sym e)))

whole : (byte : ℕ) (bytes : List ℕ) → ((k : ℕ) → k < length (byte ∷ bytes) → get_or (byte ∷ bytes) k 0 ≢ 10)
    → lines_of (byte ∷ bytes) ≡ (byte ∷ bytes) ∷ []
whole byte [] none = on_line byte [] (none 0 (omega arith))
whole byte (next ∷ bytes) none =
    on_line byte (next ∷ bytes) (none 0 (omega arith))
    ∙ ap (with_first byte) (whole next bytes (λ k within. none (suc k) (omega (arith, within))))

pub one_line : (text : List ℕ) → None ≡ position (λ b. b == 10) text → 0 < length text
    → lines_of text ≡ text ∷ lines_of (take (length text - length text) (drop (length text) text))
one_line [] none some = absurd (omega (arith, some))
one_line (byte ∷ bytes) none some =
    whole byte bytes (nowhere (byte ∷ bytes) 10 none)
    ∙ ap (λ (it : List ℕ). (byte ∷ bytes) ∷ lines_of it)
    (sym (take_rest (byte ∷ bytes) (length (byte ∷ bytes)) ∙ drop-length (byte ∷ bytes)))

cut : (text : List ℕ) (k : ℕ) → k < length text → get_or text k 0 ≡ 10 → ((j : ℕ) → j < k → get_or text j 0 ≢ 10)
    → lines_of text ≡ take k text ∷ lines_of (drop (suc k) text)
cut [] k within here before = absurd (omega (arith, within))
cut (byte ∷ bytes) zero within here before =
    ap (λ (b : ℕ). if nat_eq 10 b then [] ∷ lines_of bytes else with_first b (lines_of bytes)) here
cut (byte ∷ bytes) (suc k) within here before =
    on_line byte bytes (before 0 (omega arith))
    ∙ ap (with_first byte) (cut bytes k (omega (arith, within)) here (λ j below. before (suc j) (omega (arith, below))))

pub first_of_more : (text : List ℕ) (k : ℕ) → Some k ≡ position (λ b. b == 10) text
    → lines_of text ≡ take k text ∷ lines_of (take (length text - (k + 1)) (drop (k + 1) text))
first_of_more text k e =
    let there : IsFirstAt text 10 k = found text 10 k e in
    cut text k there.within there.here there.before
    ∙ ap (λ (it : List ℕ). take k text ∷ lines_of it)
    (ap (λ (j : ℕ). drop j text) (sym (add-one k)) ∙ sym (take_rest text (k + 1)))
