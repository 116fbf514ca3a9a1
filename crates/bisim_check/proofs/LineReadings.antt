-- Lines of certificates, read.
use Rattle.std.proofs.Common.{◌≡◌, ◌<◌, ◌≤◌, ◌+◌, ◌-◌, ◌^◌, ℕ, suc, zero, List, [], ◌∷◌, ◌++◌, Some, map, length, slice_get, get_or, take, drop, refl, ap, sym, ◌∙◌, subst, arith, add-one}
use Rattle.std.proofs.lemmas.List.{length-map}
use Rattle.behaviour_semantics.proofs.OptionLemmas.{some_value}
use Rattle.session_histories.specs.TraceLine.{lines_of}
use Rattle.behaviour_semantics.specs.WellFormed.{Every}
use Rattle.certificate_theory.specs.Certificate.{CertificateLine, names_left, names_right, lists_pair}
use Rattle.std.proofs.lemmas.List.{take_rest}
use Rattle.bisim_check.specs.LineView.{BadLineIs}
use Rattle.bisim_check.specs.declared.lines.PairTextFault.{PairTextFault}
use Rattle.bisim_check.specs.declared.lines.PairTextFault.TheVariants as text_fault
use Rattle.bisim_check.specs.LineTexts.{two_numbers, line_text, HasSmallNumbers, IsWritten, IsNoLine, AreNoNumbers, IsFirstBadLine}

-- a line whose first byte is none of the three, whose second byte is no space, or that is shorter
pub other_kind : (kind : ℕ) (bytes : List ℕ) → (kind ≡ 108 → ⊥) → (kind ≡ 114 → ⊥) → (kind ≡ 112 → ⊥) → IsNoLine (kind ∷ 32 ∷ bytes)
other_kind kind bytes no_l no_r no_p (names_left from number) h = no_l (cc h.written)
other_kind kind bytes no_l no_r no_p (names_right from number) h = no_r (cc h.written)
other_kind kind bytes no_l no_r no_p (lists_pair i j) h = no_p (cc h.written)

pub no_two : (kind : ℕ) (bytes : List ℕ) → AreNoNumbers bytes → IsNoLine (kind ∷ 32 ∷ bytes)
no_two kind bytes none (names_left from number) h = none from number h.small.0 h.small.1 (cc h.written)
no_two kind bytes none (names_right from number) h = none from number h.small.0 h.small.1 (cc h.written)
no_two kind bytes none (lists_pair i j) h = none i j h.small.0 h.small.1 (cc h.written)

pub shorter : (line : List ℕ) → length line < 2 → IsNoLine line
shorter line short (names_left from number) h = omega (arith, short, ap length h.written)
shorter line short (names_right from number) h = omega (arith, short, ap length h.written)
shorter line short (lists_pair i j) h = omega (arith, short, ap length h.written)

pub no_blank : (line : List ℕ) → (get_or line 1 0 ≡ 32 → ⊥) → IsNoLine line
no_blank line other (names_left from number) h = other (ap (λ (it : List ℕ). get_or it 1 0) h.written)
no_blank line other (names_right from number) h = other (ap (λ (it : List ℕ). get_or it 1 0) h.written)
no_blank line other (lists_pair i j) h = other (ap (λ (it : List ℕ). get_or it 1 0) h.written)

pub whole_line : (line : List ℕ) → 2 ≤ length line → get_or line 1 0 ≡ 32
    → get_or line 0 0 ∷ 32 ∷ take (length line - 2) (drop 2 line) ≡ line
whole_line [] long blank = absurd (omega (arith, long))
whole_line (kind ∷ []) long blank = absurd (omega (arith, long))
whole_line (kind ∷ space ∷ line) long blank =
    ap (λ (it : List ℕ). kind ∷ 32 ∷ it) (take_rest (kind ∷ space ∷ line) 2)
    ∙ ap (λ (it : ℕ). kind ∷ it ∷ line) (sym blank)

pub left_written : (kind : ℕ) (bytes : List ℕ) (m n : ℕ) → kind ≡ 108
    → (bytes ≡ two_numbers m n) × (m < 2 ^ 32) × (n < 2 ^ 32) → IsWritten (kind ∷ 32 ∷ bytes) (names_left m n)
left_written kind bytes m n is h =
    record { written = λ i. is i ∷ 32 ∷ h.0 i; small = (h.1, h.2) }

pub right_written : (kind : ℕ) (bytes : List ℕ) (m n : ℕ) → kind ≡ 114
    → (bytes ≡ two_numbers m n) × (m < 2 ^ 32) × (n < 2 ^ 32) → IsWritten (kind ∷ 32 ∷ bytes) (names_right m n)
right_written kind bytes m n is h =
    record { written = λ i. is i ∷ 32 ∷ h.0 i; small = (h.1, h.2) }

pub pair_written : (kind : ℕ) (bytes : List ℕ) (m n : ℕ) → kind ≡ 112
    → (bytes ≡ two_numbers m n) × (m < 2 ^ 32) × (n < 2 ^ 32) → IsWritten (kind ∷ 32 ∷ bytes) (lists_pair m n)
pair_written kind bytes m n is h =
    record { written = λ i. is i ∷ 32 ∷ h.0 i; small = (h.1, h.2) }

-- what a fault tells, in other words
pub bad_told : (P Q : ℕ → Type 0) (fault : PairTextFault) → ((n : ℕ) → P n → Q n) → BadLineIs P fault → BadLineIs Q fault
bad_told P Q (text_fault.BadLine line) more h = more line h
bad_told P Q text_fault.NoMemory more h = tt

-- ---- Lines one after another

at_seam : {X : Type 0} (xs ys : List X) (y : X) → slice_get (xs ++ (y ∷ ys)) (length xs) ≡ Some y
at_seam [] ys y = refl
at_seam (x ∷ xs) ys y = at_seam xs ys y

each_before : (lines : List CertificateLine) (more : List (List ℕ)) → Every HasSmallNumbers lines
    → (k : ℕ) (before : List ℕ) → k < length lines → slice_get (map line_text lines ++ more) k ≡ Some before
    → (line : CertificateLine) × IsWritten before line
each_before [] more small k before below e = absurd (omega (arith, below))
each_before (line ∷ lines) more small zero before below e = (line, record { written = sym (some_value e); small = small.0 })
each_before (line ∷ lines) more small (suc k) before below e =
    each_before lines more small.1 k before (omega (arith, below)) e

pub first_bad : (text rest bad behind : List ℕ) (lines : List CertificateLine) (number : ℕ)
    → lines_of text ≡ map line_text lines ++ lines_of rest → Every HasSmallNumbers lines
    → lines_of rest ≡ bad ∷ lines_of behind → number ≡ length lines + 1 → IsNoLine bad → IsFirstBadLine text number
first_bad text rest bad behind lines number so_far small cut counted none =
    let whole : lines_of text ≡ map line_text lines ++ (bad ∷ lines_of behind) =
    so_far ∙ ap (λ (it : List (List ℕ)). map line_text lines ++ it) cut in
    record {
      place = length lines;
      numbered = counted ∙ add-one (length lines);
      bad = bad;
      there = ap (λ (it : List (List ℕ)). slice_get it (length lines)) whole
          ∙ subst (λ (n : ℕ). slice_get (map line_text lines ++ (bad ∷ lines_of behind)) n ≡ Some bad)
          (length-map lines line_text) (at_seam (map line_text lines) (lines_of behind) bad);
      no_line = none;
      earlier = λ k before below e. each_before lines (bad ∷ lines_of behind) small k before below
          (sym (ap (λ (it : List (List ℕ)). slice_get it k) whole) ∙ e);
    }
