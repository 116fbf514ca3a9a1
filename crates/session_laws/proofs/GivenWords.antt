-- The names that processes are given have the form of names.
use Rattle.std.proofs.Common.{◌≡◌, ℕ, zero, suc, ◌+◌, ◌<◌, ◌%◌, ◌/◌, Bool, true, false, ◌||◌, not, List, [], ◌∷◌, ◌++◌, length, Some, None, refl, ap, sym, ◌∙◌, subst, arith, append_assoc, codes, decimal, nat_lt, nat_le, lt-ltb, mod-lt}
use Rattle.std.specs.Prelude.{◌==◌, if◌then◌else◌}
use Rattle.std.specs.Fmt.{digits, digits_onto, digit_glyph}
use Rattle.std.specs.List.{list_any, list_all}
use Rattle.std.specs.Char.{is_ascii_alphabetic, is_ascii_digit, is_ascii_alphanumeric, to_ascii_lowercase}
use Rattle.std.proofs.lemmas.Bool.{and_parts, le-leb, not-true, and_from}
use Rattle.std.proofs.lemmas.Slice.Eq.{bytes_eq-Decides}
use Rattle.std.specs.Str.{bytes_eq}
use Rattle.std.proofs.Math.Bool.{or-true}
use Rattle.lotos_base.proofs.Bytes.{digit_or_letter}
use Rattle.lotos_base.specs.Name.{folded}
use Rattle.lotos_lexer.specs.Lexemes.{underscore_before, word_length, word_kind_in}
use Rattle.lotos_lexer.specs.Spellings.{Spelling, reserved_words}
use Rattle.behaviour_semantics.specs.WellFormed.{Every}
use Rattle.session_laws.specs.TextNames.{IsWordSpelling}
use Rattle.flat_text.specs.FreeNames.{has_name, with_number, least_free}
use Rattle.flat_text.specs.GivenNames.{numbered_name, given_name, given_behind}
use Rattle.session_laws.specs.FlatTextLaws.{GivenNamesAreWords}
use Rattle.session_laws.proofs.Joining.{first_joined}

-- ---- Decimal digits

abbrev pub AreDigits : List ℕ → Type 0
AreDigits bytes = Every (λ (b : ℕ). is_ascii_digit b ≡ true) bytes

-- the bytes are digits, at least one
pub record HasDigits (bytes : List ℕ) : Type 0 where
  pub first : ℕ
  pub others : List ℕ
  pub are : bytes ≡ first ∷ others
  pub digits_are : AreDigits bytes

glyph_digit : (d : ℕ) → d < 10 → is_ascii_digit (digit_glyph false d) ≡ true
glyph_digit d small = by (nat_lt d 10) (lt-ltb d 10 small)
  where
    by : (b : Bool) → b ≡ true → is_ascii_digit (if b then 48 + d else 87 + d) ≡ true
    by true is =
        and_from (nat_le 48 (48 + d)) (nat_le (48 + d) 57) (le-leb 48 (48 + d) (omega arith))
        (le-leb (48 + d) 57 (omega (arith, small)))
    by false is = absurd (cc is)

-- the digits of a number before some that are there already
onto_digits : (count n d : ℕ) (more : List ℕ) → is_ascii_digit d ≡ true → AreDigits more
    → HasDigits (digits_onto count 10 false n (d ∷ more))
onto_digits zero n d more is are = record { first = d; others = more; are = refl; digits_are = (is, are) }
onto_digits (suc count) n d more is are =
    by (n / 10 == 0) (onto_digits count (n / 10) (digit_glyph false (n % 10)) (d ∷ more) here (is, are))
  where
    here : is_ascii_digit (digit_glyph false (n % 10)) ≡ true
    here = glyph_digit (n % 10) (mod-lt n (omega arith))

    by : (b : Bool) → HasDigits (digits_onto count 10 false (n / 10) (digit_glyph false (n % 10) ∷ (d ∷ more)))
        → HasDigits (if b then digit_glyph false (n % 10) ∷ (d ∷ more)
        else digits_onto count 10 false (n / 10) (digit_glyph false (n % 10) ∷ (d ∷ more)))
    by true rest = record { first = digit_glyph false (n % 10); others = d ∷ more; are = refl; digits_are = (here, (is, are)) }
    by false rest = rest

first_digits : (count n : ℕ) → HasDigits (digits_onto (suc count) 10 false n [])
first_digits count n = by (n / 10 == 0) (onto_digits count (n / 10) (digit_glyph false (n % 10)) [] here tt)
  where
    here : is_ascii_digit (digit_glyph false (n % 10)) ≡ true
    here = glyph_digit (n % 10) (mod-lt n (omega arith))

    by : (b : Bool) → HasDigits (digits_onto count 10 false (n / 10) (digit_glyph false (n % 10) ∷ []))
        → HasDigits (if b then digit_glyph false (n % 10) ∷ []
        else digits_onto count 10 false (n / 10) (digit_glyph false (n % 10) ∷ []))
    by true rest = record { first = digit_glyph false (n % 10); others = []; are = refl; digits_are = (here, tt) }
    by false rest = rest

pub decimal_digits : (n : ℕ) → HasDigits (decimal n)
unfolding digits
decimal_digits n = first_digits 63 n

-- ---- Words that go on with a `_` and digits

pub digits_long : (bytes : List ℕ) → AreDigits bytes → word_length bytes ≡ length bytes
digits_long [] are = refl
digits_long (b ∷ bytes) are =
    ap (λ (t : Bool). if t then suc (word_length bytes) else (if b == 95 then underscore_before (word_length bytes) else 0))
    (digit_or_letter b are.0)
    ∙ ap suc (digits_long bytes are.1)

-- a `_` before digits
line_long : (bytes : List ℕ) → HasDigits bytes → word_length (95 ∷ bytes) ≡ length (95 ∷ bytes)
line_long bytes has =
    ap underscore_before (digits_long bytes has.digits_are)
    ∙ subst (λ (bs : List ℕ). underscore_before (length bs) ≡ suc (length bs)) (sym has.are) refl

-- a word and what is a word behind it are a word
word_longer : (name : List ℕ) (b : ℕ) (more : List ℕ) → word_length name ≡ length name
    → word_length (b ∷ more) ≡ length (b ∷ more) → word_length (name ++ b ∷ more) ≡ length (name ++ b ∷ more)
word_longer [] b more whole later = later
word_longer (c ∷ name) b more whole later =
    by (is_ascii_alphanumeric c) (c == 95) (word_length name) refl whole (λ rest. word_longer name b more rest later)
  where
    some : (bytes : List ℕ) (n : ℕ) → length bytes ≡ n → underscore_before (length (bytes ++ b ∷ more)) ≡ suc (length (bytes ++ b ∷ more))
    some [] n is = refl
    some (d ∷ bytes) n is = refl

    by : (letter line : Bool) (n : ℕ) → word_length name ≡ n
        → (if letter then suc n else (if line then underscore_before n else 0)) ≡ suc (length name)
        → (word_length name ≡ length name → word_length (name ++ b ∷ more) ≡ length (name ++ b ∷ more))
        → (if letter then suc (word_length (name ++ b ∷ more))
        else (if line then underscore_before (word_length (name ++ b ∷ more)) else 0)) ≡ suc (length (name ++ b ∷ more))
    by true line n is long below =
        let same : n ≡ length name = let l = long in omega (arith, l) in
        ap suc (below (is ∙ same))
    by false true zero is long below = let l : 0 ≡ suc (length name) = long in absurd (omega (arith, l))
    by false true (suc n) is long below =
        let l : suc (suc n) ≡ suc (length name) = long in
        let same : suc n ≡ length name = omega (arith, l) in
        ap underscore_before (below (is ∙ same)) ∙ some name (length name) refl
    by false false n is long below = let l : 0 ≡ suc (length name) = long in absurd (omega (arith, l))

-- ---- Reserved words have no `_`

abbrev is_line : ℕ → Bool
is_line b = b == 95

line_inside : (name more : List ℕ) → list_any is_line (folded (name ++ 95 ∷ more)) ≡ true
line_inside [] more = refl
line_inside (b ∷ name) more =
    ap (λ (rest : Bool). is_line (to_ascii_lowercase b) || rest) (line_inside name more) ∙ or-true (is_line (to_ascii_lowercase b))

none_reserved : (rows : List Spelling) (name : List ℕ)
    → list_all (λ (row : Spelling). not (list_any is_line (folded row.0))) rows ≡ true → list_any is_line (folded name) ≡ true
    → word_kind_in rows name ≡ None
none_reserved [] name none has = refl
none_reserved (row ∷ rows) name none has =
    let parts = and_parts (not (list_any is_line (folded row.0)))
    (list_all (λ (r : Spelling). not (list_any is_line (folded r.0))) rows) none in
    by (bytes_eq (folded row.0) (folded name)) refl parts.0 (none_reserved rows name parts.1 has)
  where
    by : (same : Bool) → bytes_eq (folded row.0) (folded name) ≡ same → not (list_any is_line (folded row.0)) ≡ true
        → word_kind_in rows name ≡ None → (if same then Some row.1 else word_kind_in rows name) ≡ None
    by true same without rest =
        let without_it : list_any is_line (folded row.0) ≡ false = not-true (list_any is_line (folded row.0)) without in
        let never : true ≡ false =
        sym has ∙ (ap (list_any is_line) (sym ((bytes_eq-Decides (folded row.0) (folded name)).0 same)) ∙ without_it) in
        cc
    by false same without rest = rest

-- ---- Names with a number

numbered_word : (name : List ℕ) (n : ℕ) → IsWordSpelling name → IsWordSpelling (with_number (name ++ codes "_") n)
numbered_word name n is = subst IsWordSpelling (sym (append_assoc name (codes "_") (decimal n))) (record {
  begins = first_joined is_ascii_alphabetic name (95 ∷ decimal n) is.begins;
  whole = word_longer name 95 (decimal n) is.whole (line_long (decimal n) (decimal_digits n));
  not_reserved = none_reserved reserved_words (name ++ 95 ∷ decimal n) refl (line_inside name (decimal n));
})

given_word : (earlier taken : List (List ℕ)) (name : List ℕ) → IsWordSpelling name → IsWordSpelling (given_name earlier taken name)
given_word earlier taken name is = by (has_name earlier name)
  where
    by : (there : Bool) → IsWordSpelling (if there then numbered_name taken name else name)
    by true = numbered_word name (least_free taken (name ++ codes "_") 2) is
    by false = is

given_words : (earlier taken names : List (List ℕ)) → Every IsWordSpelling names → Every IsWordSpelling (given_behind earlier taken names)
given_words earlier taken [] each = tt
given_words earlier taken (name ∷ names) each = (
  given_word earlier taken name each.0,
  given_words (name ∷ earlier) (given_name earlier taken name ∷ taken) names each.1,
)

pub given_names_are_words : GivenNamesAreWords
given_names_are_words names each = given_words [] names names each
