use Rattle.std.proofs.Common.{◌≡◌, ℕ, ◌+◌, zero, suc, List, [], ◌∷◌, ◌++◌, Bool, true, false, codes, map, length, slice_get, drop, Some, refl, sym, ◌∙◌, ap, ap₂, append_assoc, add-one, arith}
use Rattle.lotos_base.specs.declared.names.Name.{Name}
use Rattle.event_offers.specs.HandedOn.{terms_of}
use Rattle.event_offers.specs.OfferView.{conditions_of}
use Rattle.sort_terms.specs.SignatureView.{signature_of}
use Rattle.sort_terms.specs.declared.signatures.Signature.{Signature as KeptSignature}
use Rattle.sort_terms.specs.declared.sorted.Sorted.{Sorted}
use Rattle.event_offers.specs.declared.drafts.Entry.{Entry}
use Rattle.printed_texts.specs.Brackets.{bracketed, round, commas}
use Rattle.printed_texts.specs.MenuText.{term_texts, exit_values_text, given_text, condition_texts, if_text}
use Rattle.printed_texts.specs.TextView.{written_value, written_condition, written_line, written_lines}

-- the texts of values and conditions one by one
pub value_texts : (s : KeptSignature) (vs : List Sorted) → term_texts (signature_of s) (terms_of vs) ≡ map (written_value s) vs
value_texts s [] = refl
value_texts s (v ∷ vs) = ap (λ texts. written_value s v ∷ texts) (value_texts s vs)

pub texts_of_conditions :
    (s : KeptSignature) (cs : List (Sorted × Sorted)) → condition_texts (signature_of s) (conditions_of cs) ≡ map (written_condition s) cs
texts_of_conditions s [] = refl
texts_of_conditions s (c ∷ cs) = ap (λ texts. written_condition s c ∷ texts) (texts_of_conditions s cs)

-- the values of `exit` in their brackets, which stand where there are some
pub exit_values_are :
    (s : KeptSignature) (vs : List Sorted) (needed : Bool) →
    (needed ≡ false → vs ≡ []) →
    (needed ≡ true → length vs ≡ 0 → ⊥) →
    exit_values_text (signature_of s) (terms_of vs) ≡ bracketed needed (commas (map (written_value s) vs))
exit_values_are s [] false h k = refl
exit_values_are s [] true h k = absurd (k refl refl)
exit_values_are s (v ∷ vs) true h k = ap (λ texts. round (commas texts)) (value_texts s (v ∷ vs))
exit_values_are s (v ∷ vs) false h k = let none : (v ∷ vs) ≡ [] = h refl in grind arith

-- the values of a step, which stand where there are some
pub given_are : (s : KeptSignature) (vs : List Sorted) → (length vs ≡ 0 → ⊥)
    → given_text (signature_of s) (terms_of vs) ≡ codes " " ++ commas (map (written_value s) vs)
given_are s [] h = absurd (h refl)
given_are s (v ∷ vs) h = ap (λ texts. codes " " ++ commas texts) (value_texts s (v ∷ vs))

-- the conditions of an entry that has some
pub conditions_are :
    (s : KeptSignature) (cs : List (Sorted × Sorted)) →
    (length cs ≡ 0 → ⊥) →
    if_text (signature_of s) (conditions_of cs) ≡ codes " if " ++ commas (map (written_condition s) cs)
conditions_are s [] h = absurd (h refl)
conditions_are s (c ∷ cs) h = ap (λ texts. codes " if " ++ commas texts) (texts_of_conditions s (c ∷ cs))

one_some : {x y : Entry} → Some x ≡ Some y → x ≡ y
one_some h = cc h

-- the lines from an entry on
lines_at :
    (s : KeptSignature) (gates : List Name) (entries : List Entry) (position number : ℕ) (entry : Entry) →
    slice_get entries position ≡ Some entry →
    written_lines s gates number (drop position entries)
    ≡ written_line s gates number entry ++ written_lines s gates (number + 1) (drop (suc position) entries)
lines_at s gates [] position number entry h = absurd (cc h)
lines_at s gates (x ∷ entries) zero number entry h =
    ap (λ (e : Entry). written_line s gates number e ++ written_lines s gates (number + 1) entries) (one_some h)
lines_at s gates (x ∷ entries) (suc position) number entry h = lines_at s gates entries position number entry h

-- one more line is written
pub lines_more :
    (s : KeptSignature) (gates : List Name) (entries : List Entry) (position before : ℕ) (entry : Entry) (was now start : List ℕ) →
    slice_get entries position ≡ Some entry →
    was ++ written_lines s gates (before + position + 1) (drop position entries) ≡ start →
    now ≡ was ++ written_line s gates (before + position + 1) entry →
    now ++ written_lines s gates (before + (position + 1) + 1) (drop (position + 1) entries) ≡ start
lines_more s gates entries position before entry was now start here so_far with_line =
    ap (λ xs. xs ++ written_lines s gates (before + (position + 1) + 1) (drop (position + 1) entries)) with_line
    ∙ append_assoc was (written_line s gates (before + position + 1) entry) _
    ∙ ap₂ (λ m n. was ++ (written_line s gates (before + position + 1) entry ++ written_lines s gates m (drop n entries)))
    (omega arith) (add-one position)
    ∙ ap (λ xs. was ++ xs) (sym (lines_at s gates entries position (before + position + 1) entry here))
    ∙ so_far

-- the lines of two lists one behind the other
pub lines_joined :
    (s : KeptSignature) (gates : List Name) (number : ℕ) (xs ys : List Entry) →
    written_lines s gates number (xs ++ ys) ≡ written_lines s gates number xs ++ written_lines s gates (number + length xs) ys
lines_joined s gates number [] ys = ap (λ n. written_lines s gates n ys) (omega arith)
lines_joined s gates number (x ∷ xs) ys =
    ap (λ t. written_line s gates number x ++ t) (lines_joined s gates (number + 1) xs ys
    ∙ ap (λ n. written_lines s gates (number + 1) xs ++ written_lines s gates n ys) (omega arith))
    ∙ sym (append_assoc (written_line s gates number x) (written_lines s gates (number + 1) xs) _)

-- the lines of two lists are written one behind the other
pub lines_behind :
    (s : KeptSignature) (gates : List Name) (before count : ℕ) (all xs ys : List Entry) (was half now : List ℕ) →
    all ≡ xs ++ ys → count ≡ length xs →
    half ≡ was ++ written_lines s gates (before + 1) xs →
    now ≡ half ++ written_lines s gates (before + count + 1) ys →
    now ≡ was ++ written_lines s gates (before + 1) all
lines_behind s gates before count all xs ys was half now both counted first second =
    second
    ∙ ap₂ (λ h n. h ++ written_lines s gates n ys) first (omega (arith, counted))
    ∙ append_assoc was (written_lines s gates (before + 1) xs) (written_lines s gates (before + 1 + length xs) ys)
    ∙ ap (λ t. was ++ t) (sym (lines_joined s gates (before + 1) xs ys))
    ∙ ap (λ es. was ++ written_lines s gates (before + 1) es) (sym both)
