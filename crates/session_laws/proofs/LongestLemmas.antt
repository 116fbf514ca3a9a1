-- The longest token is taken.
use Rattle.std.proofs.Common.{◌≡◌, ◌⊎◌, inl, inr, ℕ, zero, suc, ◌+◌, ◌≤◌, ◌<◌, Bool, true, false, ◌&&◌, ◌||◌, not, cond, nat_eq, if◌then◌else◌, List, [], ◌∷◌, ◌++◌, take, length, codes, Option, None, Some, slice_get, unwrap_or, refl, ap, sym, ◌∙◌, subst, arith}
use Rattle.std.specs.Prelude.{◌==◌, nat_lt}
use Rattle.std.specs.List.{prefix_len, list_all, list_any}
use Rattle.std.specs.Option.{option_or}
use Rattle.std.specs.Char.{is_ascii_alphabetic, is_ascii_digit, is_ascii_alphanumeric}
use Rattle.std.proofs.lemmas.Bool.{and_parts, ltb-true, ltb-false, not-true}
use Rattle.std.proofs.lemmas.Slice.Eq.{bytes_eq-Decides}
use Rattle.std.proofs.lemmas.Option.{same_Some}
use Rattle.std.proofs.lemmas.Bool.Decides.{Decides-eqb}
use Rattle.lotos_base.proofs.Bytes.{letter_or_digit, digit_or_letter}
use Rattle.lotos_lexer.specs.declared.kinds.TheConstants.{NAME, DIGIT_NAME, SIGN_NAME, GATES_CLOSE}
use Rattle.lotos_lexer.specs.declared.lexemes.Lexeme.{Lexeme}
use Rattle.lotos_lexer.specs.Bytes.{first_is, begins_with, is_sign}
use Rattle.lotos_lexer.specs.Spellings.{Spelling, reserved_words, operators, reserved_runs, single_signs}
use Rattle.lotos_lexer.specs.Lexemes.{underscore_before, word_length, kind_in, word_kind_in, lexeme_of, spelling_at, closing}
use Rattle.lotos_lexer.proofs.Spans.{word_length-le}
use Rattle.session_laws.proofs.NameTokens.{digit_no_letter}
use Rattle.session_laws.proofs.WordLemmas.{word_again, run_within, run_again, taken_long, first_stays, word_some, run_some, first_alphanumeric}
use Rattle.session_laws.specs.LongestTokens.{IsToken, a_word, a_digit_name, a_run, a_fixed, closing_gates, IsLongest, IsTokenTaken, TokensAreLongest}

-- ---- The first byte tells which tokens may fit

-- no fixed spelling begins with a byte that passes the test
abbrev NoneBegins : (ℕ → Bool) → List Spelling → Type 0
NoneBegins test rows = list_all (λ (row : Spelling). not (first_is test row.0)) rows ≡ true

row_begins : (test : ℕ → Bool) (rows : List Spelling) (k kind : ℕ) (bytes : List ℕ) → NoneBegins test rows
    → slice_get rows k ≡ Some (bytes, kind) → first_is test bytes ≡ false
row_begins test [] k kind bytes none found = absurd (cc found)
row_begins test (row ∷ rows) zero kind bytes none found =
    let parts = and_parts (not (first_is test row.0)) (list_all (λ (r : Spelling). not (first_is test r.0)) rows) none in
    let same : row ≡ (bytes, kind) = same_Some row (bytes, kind) found in
    subst (λ (r : Spelling). first_is test r.0 ≡ false) same (not-true (first_is test row.0) parts.0)
row_begins test (row ∷ rows) (suc k) kind bytes none found =
    row_begins test rows k kind bytes
    (and_parts (not (first_is test row.0)) (list_all (λ (r : Spelling). not (first_is test r.0)) rows) none).1 found

-- what passes one test passes not the other
abbrev pub Apart : (ℕ → Bool) → (ℕ → Bool) → Type 0
Apart test other = (byte : ℕ) → test byte ≡ true → other byte ≡ false

pub both_begin : (test other : ℕ → Bool) → Apart test other → (bytes : List ℕ) → first_is test bytes ≡ true → first_is other bytes ≡ true
    → ⊥
both_begin test other apart [] is also = cc is
both_begin test other apart (byte ∷ rest) is also = let no = apart byte is in cc (no, also)

-- the first byte of what is taken is that of the bytes
first_taken : (test : ℕ → Bool) (n : ℕ) (bytes : List ℕ) → first_is test (take n bytes) ≡ true → first_is test bytes ≡ true
first_taken test zero bytes is = absurd (cc is)
first_taken test (suc n) [] is = is
first_taken test (suc n) (byte ∷ rest) is = is

-- ---- Words and runs

-- so many bytes that are a whole word are no more than the word that begins there
word_prefix : (n : ℕ) (bytes : List ℕ) → n ≤ length bytes → word_length (take n bytes) ≡ n → n ≤ word_length bytes
word_prefix zero bytes within is = omega arith
word_prefix (suc n) [] within is = absurd (omega (arith, within))
word_prefix (suc n) (byte ∷ rest) within is =
    by (is_ascii_alphanumeric byte) (byte == 95) is (λ whole. word_prefix n rest (let w = within in omega (arith, w)) whole)
  where
    more : (m k : ℕ) → underscore_before m ≡ suc n → (m ≡ n → n ≤ k) → suc n ≤ underscore_before k
    more zero k is below = absurd (cc is)
    more (suc m) zero is below =
        let same : suc m ≡ n = (let e = is in omega (arith, e)) in
        let less = below same in absurd (omega (arith, same, less))
    more (suc m) (suc k) is below = let same : suc m ≡ n = (let e = is in omega (arith, e)) in let less = below same in omega (arith, less)

    by : (letter line : Bool)
        → (if letter then suc (word_length (take n rest)) else if line then underscore_before (word_length (take n rest)) else 0) ≡ suc n
        → (word_length (take n rest) ≡ n → n ≤ word_length rest)
        → suc n ≤ (if letter then suc (word_length rest) else if line then underscore_before (word_length rest) else 0)
    by true line is below =
        let same : word_length (take n rest) ≡ n = (let e = is in omega (arith, e)) in
        let less = below same in omega (arith, less)
    by false true is below = more (word_length (take n rest)) (word_length rest) is below
    by false false is below = absurd (cc is)

run_prefix : (test : ℕ → Bool) (n : ℕ) (bytes : List ℕ) → n ≤ length bytes → prefix_len test (take n bytes) ≡ n → n ≤ prefix_len test bytes
run_prefix test zero bytes within is = omega arith
run_prefix test (suc n) [] within is = absurd (omega (arith, within))
run_prefix test (suc n) (byte ∷ rest) within is =
    by (test byte) is (λ whole. run_prefix test n rest (let w = within in omega (arith, w)) whole)
  where
    by : (here : Bool) → cond here (1 + prefix_len test (take n rest)) 0 ≡ suc n
        → (prefix_len test (take n rest) ≡ n → n ≤ prefix_len test rest)
        → suc n ≤ cond here (1 + prefix_len test rest) 0
    by true is below =
        let same : prefix_len test (take n rest) ≡ n = (let e = is in omega (arith, e)) in
        let less = below same in omega (arith, less)
    by false is below = absurd (cc is)

-- ---- Tokens by their first byte

abbrev pub all_fixed : List Spelling
all_fixed = operators ++ single_signs

pub fails : (b : Bool) → b ≡ true → b ≡ false → ⊥
fails b is not_so = cc (is, not_so)

-- the test of each byte of a list
pub each_in : (bytes : List ℕ) (test : ℕ → Bool) → list_all test bytes ≡ true → (b : ℕ) → list_any (λ x. x == b) bytes ≡ true
    → test b ≡ true
each_in [] test all b is = cc
each_in (x ∷ xs) test all b is = by (x == b) refl (test x) refl all is (λ rest found. each_in xs test rest b found)
  where
    by : (same : Bool) → (x == b) ≡ same → (here : Bool) → test x ≡ here → (here && list_all test xs) ≡ true
        → (same || list_any (λ y. y == b) xs) ≡ true
        → (list_all test xs ≡ true → list_any (λ y. y == b) xs ≡ true → test b ≡ true) → test b ≡ true
    by true same true here rest is below = ap test (sym ((Decides-eqb x b).0 same)) ∙ here
    by true same false here rest is below = cc
    by false same true here rest is below = below rest is
    by false same false here rest is below = cc

pub sign_fails : (test : ℕ → Bool) → list_all (λ x. not (test x)) (codes "#%&*+-./<=>@\\^~{}") ≡ true → (b : ℕ) → is_sign b ≡ true
    → test b ≡ false
sign_fails test none b is = not-true (test b) (each_in (codes "#%&*+-./<=>@\\^~{}") (λ x. not (test x)) none b is)

pub letter_no_digit : Apart is_ascii_alphabetic is_ascii_digit
letter_no_digit byte is = by (is_ascii_digit byte) refl
  where
    by : (digit : Bool) → is_ascii_digit byte ≡ digit → digit ≡ false
    by true digit = absurd (fails (is_ascii_alphabetic byte) is (digit_no_letter byte digit))
    by false digit = refl

letter_no_sign : Apart is_ascii_alphabetic is_sign
letter_no_sign byte is = by (is_sign byte) refl
  where
    by : (sign : Bool) → is_sign byte ≡ sign → sign ≡ false
    by true sign = absurd (fails (is_ascii_alphabetic byte) is (sign_fails is_ascii_alphabetic refl byte sign))
    by false sign = refl

digit_no_sign : Apart is_ascii_digit is_sign
digit_no_sign byte is = by (is_sign byte) refl
  where
    by : (sign : Bool) → is_sign byte ≡ sign → sign ≡ false
    by true sign = absurd (fails (is_ascii_digit byte) is (sign_fails is_ascii_digit refl byte sign))
    by false sign = refl

record IsWordToken (kind : ℕ) (bytes : List ℕ) : Type 0 where
  pub whole : word_length bytes ≡ length bytes
  pub kind_is : kind ≡ unwrap_or (word_kind_in reserved_words bytes) NAME

record IsDigitToken (kind : ℕ) (bytes : List ℕ) : Type 0 where
  pub whole : word_length bytes ≡ length bytes
  pub kind_is : kind ≡ DIGIT_NAME

record IsRunToken (kind : ℕ) (bytes : List ℕ) : Type 0 where
  pub whole : prefix_len is_sign bytes ≡ length bytes
  pub kind_is : kind ≡ unwrap_or (kind_in reserved_runs bytes) SIGN_NAME

closing_first : (test : ℕ → Bool) (bytes : List ℕ) → bytes ≡ codes "]|" → test 93 ≡ false → first_is test bytes ≡ false
closing_first test bytes is other = ap (first_is test) is ∙ other

only_words : (open_list : Bool) (kind : ℕ) (bytes : List ℕ) → first_is is_ascii_alphabetic bytes ≡ true → IsToken open_list kind bytes
    → IsWordToken kind bytes
only_words open_list kind bytes is (a_word begins whole kind_is) = record { whole = whole; kind_is = kind_is }
only_words open_list kind bytes is (a_digit_name begins whole kind_is) =
    absurd (both_begin is_ascii_alphabetic is_ascii_digit letter_no_digit bytes is begins)
only_words open_list kind bytes is (a_run begins whole kind_is) =
    absurd (both_begin is_ascii_alphabetic is_sign letter_no_sign bytes is begins)
only_words open_list kind bytes is (a_fixed row found) =
    absurd (fails (first_is is_ascii_alphabetic bytes) is (row_begins is_ascii_alphabetic all_fixed row kind bytes refl found))
only_words open_list kind bytes is (closing_gates opened kind_is same) =
    absurd (fails (first_is is_ascii_alphabetic bytes) is (closing_first is_ascii_alphabetic bytes same refl))

only_digits : (open_list : Bool) (kind : ℕ) (bytes : List ℕ) → first_is is_ascii_digit bytes ≡ true → IsToken open_list kind bytes
    → IsDigitToken kind bytes
only_digits open_list kind bytes is (a_word begins whole kind_is) =
    absurd (both_begin is_ascii_alphabetic is_ascii_digit letter_no_digit bytes begins is)
only_digits open_list kind bytes is (a_digit_name begins whole kind_is) = record { whole = whole; kind_is = kind_is }
only_digits open_list kind bytes is (a_run begins whole kind_is) =
    absurd (both_begin is_ascii_digit is_sign digit_no_sign bytes is begins)
only_digits open_list kind bytes is (a_fixed row found) =
    absurd (fails (first_is is_ascii_digit bytes) is (row_begins is_ascii_digit all_fixed row kind bytes refl found))
only_digits open_list kind bytes is (closing_gates opened kind_is same) =
    absurd (fails (first_is is_ascii_digit bytes) is (closing_first is_ascii_digit bytes same refl))

only_runs : (open_list : Bool) (kind : ℕ) (bytes : List ℕ) → first_is is_sign bytes ≡ true → IsToken open_list kind bytes
    → IsRunToken kind bytes
only_runs open_list kind bytes is (a_word begins whole kind_is) =
    absurd (both_begin is_ascii_alphabetic is_sign letter_no_sign bytes begins is)
only_runs open_list kind bytes is (a_digit_name begins whole kind_is) =
    absurd (both_begin is_ascii_digit is_sign digit_no_sign bytes begins is)
only_runs open_list kind bytes is (a_run begins whole kind_is) = record { whole = whole; kind_is = kind_is }
only_runs open_list kind bytes is (a_fixed row found) =
    absurd (fails (first_is is_sign bytes) is (row_begins is_sign all_fixed row kind bytes refl found))
only_runs open_list kind bytes is (closing_gates opened kind_is same) =
    absurd (fails (first_is is_sign bytes) is (closing_first is_sign bytes same refl))

-- ---- Words, digit names and runs

word_longest : (open_list : Bool) (bytes : List ℕ) → first_is is_ascii_alphabetic bytes ≡ true
    → IsLongest open_list bytes (unwrap_or (word_kind_in reserved_words (take (word_length bytes) bytes)) NAME) (word_length bytes)
word_longest open_list bytes is = record {
  within = word_length-le bytes;
  token = a_word begins (word_again bytes ∙ sym (taken_long (word_length bytes) bytes (word_length-le bytes))) refl;
  longest = longest;
  alone = λ other token. (only_words open_list other (take (word_length bytes) bytes) begins token).kind_is;
}
  where
    some : 1 ≤ word_length bytes
    some = word_some bytes (first_alphanumeric is_ascii_alphabetic letter_or_digit bytes is)

    begins : first_is is_ascii_alphabetic (take (word_length bytes) bytes) ≡ true
    begins = first_stays is_ascii_alphabetic (word_length bytes) bytes is some

    longest : (n other : ℕ) → n ≤ length bytes → IsToken open_list other (take n bytes) → n ≤ word_length bytes
    longest zero other within token = omega arith
    longest (suc n) other within token =
        let found = only_words open_list other (take (suc n) bytes)
        (first_stays is_ascii_alphabetic (suc n) bytes is (omega arith)) token in
        word_prefix (suc n) bytes within (found.whole ∙ taken_long (suc n) bytes within)

digit_longest : (open_list : Bool) (bytes : List ℕ) → first_is is_ascii_digit bytes ≡ true
    → IsLongest open_list bytes DIGIT_NAME (word_length bytes)
digit_longest open_list bytes is = record {
  within = word_length-le bytes;
  token = a_digit_name begins (word_again bytes ∙ sym (taken_long (word_length bytes) bytes (word_length-le bytes))) refl;
  longest = longest;
  alone = λ other token. (only_digits open_list other (take (word_length bytes) bytes) begins token).kind_is;
}
  where
    some : 1 ≤ word_length bytes
    some = word_some bytes (first_alphanumeric is_ascii_digit digit_or_letter bytes is)

    begins : first_is is_ascii_digit (take (word_length bytes) bytes) ≡ true
    begins = first_stays is_ascii_digit (word_length bytes) bytes is some

    longest : (n other : ℕ) → n ≤ length bytes → IsToken open_list other (take n bytes) → n ≤ word_length bytes
    longest zero other within token = omega arith
    longest (suc n) other within token =
        let found = only_digits open_list other (take (suc n) bytes) (first_stays is_ascii_digit (suc n) bytes is (omega arith)) token in
        word_prefix (suc n) bytes within (found.whole ∙ taken_long (suc n) bytes within)

run_longest : (open_list : Bool) (bytes : List ℕ) → first_is is_sign bytes ≡ true
    → IsLongest open_list bytes (unwrap_or (kind_in reserved_runs (take (prefix_len is_sign bytes) bytes)) SIGN_NAME)
    (prefix_len is_sign bytes)
run_longest open_list bytes is = record {
  within = run_within is_sign bytes;
  token = a_run begins (run_again is_sign bytes ∙ sym (taken_long (prefix_len is_sign bytes) bytes (run_within is_sign bytes))) refl;
  longest = longest;
  alone = λ other token. (only_runs open_list other (take (prefix_len is_sign bytes) bytes) begins token).kind_is;
}
  where
    begins : first_is is_sign (take (prefix_len is_sign bytes) bytes) ≡ true
    begins = first_stays is_sign (prefix_len is_sign bytes) bytes is (run_some is_sign bytes is)

    longest : (n other : ℕ) → n ≤ length bytes → IsToken open_list other (take n bytes) → n ≤ prefix_len is_sign bytes
    longest zero other within token = omega arith
    longest (suc n) other within token =
        let found = only_runs open_list other (take (suc n) bytes) (first_stays is_sign (suc n) bytes is (omega arith)) token in
        run_prefix is_sign (suc n) bytes within (found.whole ∙ taken_long (suc n) bytes within)

-- ---- Fixed spellings

-- no row begins a later one
abbrev AreInOrder : List Spelling → Type 0
AreInOrder [] = Unit {0}
AreInOrder (row ∷ rows) = (list_all (λ (later : Spelling). not (begins_with row.0 later.0)) rows ≡ true) × AreInOrder rows

-- what bytes begin with
pub begins_so : (spelling bytes : List ℕ) → begins_with spelling bytes ≡ true → take (length spelling) bytes ≡ spelling
begins_so spelling bytes is = sym ((bytes_eq-Decides spelling (take (length spelling) bytes)).0 is)

pub so_begins : (spelling bytes : List ℕ) → take (length spelling) bytes ≡ spelling → begins_with spelling bytes ≡ true
so_begins spelling bytes is = (bytes_eq-Decides spelling (take (length spelling) bytes)).1 (sym is)

pub within_taken : (n : ℕ) (bytes : List ℕ) → length (take n bytes) ≡ n → n ≤ length bytes
within_taken zero bytes is = omega arith
within_taken (suc n) [] is = absurd (cc is)
within_taken (suc n) (byte ∷ rest) is =
    let same : length (take n rest) ≡ n = (let e = is in omega (arith, e)) in let less = within_taken n rest same in omega (arith, less)

pub take_less : (m n : ℕ) (bytes : List ℕ) → m ≤ n → take m (take n bytes) ≡ take m bytes
take_less zero n bytes less = refl
take_less (suc m) zero bytes less = absurd (omega (arith, less))
take_less (suc m) (suc n) [] less = refl
take_less (suc m) (suc n) (byte ∷ rest) less = ap (λ (bs : List ℕ). byte ∷ bs) (take_less m n rest (let l = less in omega (arith, l)))

taken_begins : (n : ℕ) (bytes : List ℕ) → n ≤ length bytes → begins_with (take n bytes) bytes ≡ true
taken_begins n bytes within = so_begins (take n bytes) bytes (ap (λ (m : ℕ). take m bytes) (taken_long n bytes within))

-- a row that is a beginning of the bytes
abbrev IsRowAt : List Spelling → List ℕ → ℕ → ℕ → ℕ → Type 0
IsRowAt rows bytes k n kind = (n ≤ length bytes) × (slice_get rows k ≡ Some (take n bytes, kind))

record IsRowLongest (rows : List Spelling) (bytes : List ℕ) (lexeme : Lexeme) : Type 0 where
  pub row : ℕ
  pub there : IsRowAt rows bytes row lexeme.length lexeme.kind
  pub longest : (k n kind : ℕ) → IsRowAt rows bytes k n kind → (n ≤ lexeme.length) × (n ≡ lexeme.length → kind ≡ lexeme.kind)

abbrev IsRowTaken : List Spelling → List ℕ → Option Lexeme → Type 0
IsRowTaken rows bytes None = (k n kind : ℕ) → IsRowAt rows bytes k n kind → ⊥
IsRowTaken rows bytes (Some lexeme) = IsRowLongest rows bytes lexeme

pub later_row : (test : Spelling → Bool) (rows : List Spelling) (k : ℕ) (row : Spelling) → list_all test rows ≡ true
    → slice_get rows k ≡ Some row → test row ≡ true
later_row test [] k row all found = absurd (cc found)
later_row test (first ∷ rows) zero row all found =
    subst (λ (r : Spelling). test r ≡ true) (same_Some first row found) (and_parts (test first) (list_all test rows) all).0
later_row test (first ∷ rows) (suc k) row all found = later_row test rows k row (and_parts (test first) (list_all test rows) all).1 found

rows_taken : (rows : List Spelling) (bytes : List ℕ) → AreInOrder rows → IsRowTaken rows bytes (spelling_at rows bytes)
rows_taken [] bytes order = λ k n kind at. cc at.1
rows_taken (row ∷ rows) bytes order = by (begins_with row.0 bytes) refl (spelling_at rows bytes) (rows_taken rows bytes order.1)
  where
    by : (begins : Bool) → begins_with row.0 bytes ≡ begins → (found : Option Lexeme) → IsRowTaken rows bytes found
        → IsRowTaken (row ∷ rows) bytes (if begins then Some (lexeme_of row.1 (length row.0)) else found)
    by true begins found more = record { row = zero; there = (here, λ i. Some (sym is i, row.1)); longest = longest }
      where
        is : take (length row.0) bytes ≡ row.0
        is = begins_so row.0 bytes begins

        here : length row.0 ≤ length bytes
        here = within_taken (length row.0) bytes (ap (λ (bs : List ℕ). length bs) is)

        longest : (k n kind : ℕ) → IsRowAt (row ∷ rows) bytes k n kind → (n ≤ length row.0) × (n ≡ length row.0 → kind ≡ row.1)
        longest zero n kind at =
            let same : row ≡ (take n bytes, kind) = same_Some row (take n bytes, kind) at.1 in
            let long : length row.0 ≡ n = ap (λ (r : Spelling). length r.0) same ∙ taken_long n bytes at.0 in
            (omega (arith, long), λ equal. sym (ap (λ (r : Spelling). r.1) same))
        longest (suc k) n kind at = shorter (nat_lt n (length row.0)) refl
          where
            shorter : (less : Bool) → nat_lt n (length row.0) ≡ less → (n ≤ length row.0) × (n ≡ length row.0 → kind ≡ row.1)
            shorter true less =
                let small = ltb-true n (length row.0) less in (omega (arith, small), λ equal. absurd (omega (arith, small, equal)))
            shorter false other =
                let most = ltb-false n (length row.0) other in
                let begun : begins_with row.0 (take n bytes) ≡ true =
                so_begins row.0 (take n bytes) (take_less (length row.0) n bytes most ∙ is) in
                let never = later_row (λ (later : Spelling). not (begins_with row.0 later.0)) rows k (take n bytes, kind) order.0 at.1 in
                absurd (fails (begins_with row.0 (take n bytes)) begun (not-true (begins_with row.0 (take n bytes)) never))
    by false begins None more = none
      where
        none : (k n kind : ℕ) → IsRowAt (row ∷ rows) bytes k n kind → ⊥
        none zero n kind at =
            let same : row ≡ (take n bytes, kind) = same_Some row (take n bytes, kind) at.1 in
            fails (begins_with row.0 bytes)
            (subst (λ (r : Spelling). begins_with r.0 bytes ≡ true) (sym same) (taken_begins n bytes at.0)) begins
        none (suc k) n kind at = more k n kind at
    by false begins (Some lexeme) more = record { row = suc more.row; there = more.there; longest = longest }
      where
        longest : (k n kind : ℕ) → IsRowAt (row ∷ rows) bytes k n kind → (n ≤ lexeme.length) × (n ≡ lexeme.length → kind ≡ lexeme.kind)
        longest zero n kind at =
            let same : row ≡ (take n bytes, kind) = same_Some row (take n bytes, kind) at.1 in
            absurd (fails (begins_with row.0 bytes)
            (subst (λ (r : Spelling). begins_with r.0 bytes ≡ true) (sym same) (taken_begins n bytes at.0)) begins)
        longest (suc k) n kind at = more.longest k n kind at

in_order : AreInOrder all_fixed
in_order =
    (refl, (refl, (refl, (refl, (refl, (refl, (refl, (refl, (refl, (refl, (refl, (refl, (refl, (refl, (refl, (refl, tt))))))))))))))))

spelled_in : (rows others : List Spelling) (bytes : List ℕ) → spelling_at (rows ++ others) bytes
    ≡ option_or (spelling_at rows bytes) (spelling_at others bytes)
spelled_in [] others bytes = refl
spelled_in (row ∷ rows) others bytes = by (begins_with row.0 bytes) (spelled_in rows others bytes)
  where
    by : (begins : Bool) → spelling_at (rows ++ others) bytes ≡ option_or (spelling_at rows bytes) (spelling_at others bytes)
        → (if begins then Some (lexeme_of row.1 (length row.0)) else spelling_at (rows ++ others) bytes)
        ≡ option_or (if begins then Some (lexeme_of row.1 (length row.0)) else spelling_at rows bytes) (spelling_at others bytes)
    by true more = refl
    by false more = more

-- what begins with a spelling whose first byte fails a test fails it
begun_fails : (test : ℕ → Bool) (spelling bytes : List ℕ) → first_is test bytes ≡ true → first_is test spelling ≡ false
    → 1 ≤ length spelling → begins_with spelling bytes ≡ true → ⊥
begun_fails test spelling bytes is other some begins =
    fails (first_is test spelling)
    (subst (λ (bs : List ℕ). first_is test bs ≡ true) (begins_so spelling bytes begins) (first_stays test (length spelling) bytes is some))
    other

none_at : (test : ℕ → Bool) (rows : List Spelling) (bytes : List ℕ) → NoneBegins test rows
    → list_all (λ (row : Spelling). nat_lt 0 (length row.0)) rows ≡ true → first_is test bytes ≡ true → spelling_at rows bytes ≡ None
none_at test [] bytes none some is = refl
none_at test (row ∷ rows) bytes none some is =
    let first = and_parts (not (first_is test row.0)) (list_all (λ (r : Spelling). not (first_is test r.0)) rows) none in
    let long = and_parts (nat_lt 0 (length row.0)) (list_all (λ (r : Spelling). nat_lt 0 (length r.0)) rows) some in
    by (begins_with row.0 bytes) refl (not-true (first_is test row.0) first.0) (ltb-true 0 (length row.0) long.0)
    (none_at test rows bytes first.1 long.1 is)
  where
    by : (begins : Bool) → begins_with row.0 bytes ≡ begins → first_is test row.0 ≡ false → 1 ≤ length row.0
        → spelling_at rows bytes ≡ None
        → (if begins then Some (lexeme_of row.1 (length row.0)) else spelling_at rows bytes) ≡ None
    by true begins other some more = absurd (begun_fails test row.0 bytes is other some begins)
    by false begins other some more = more

module _ (open_list : Bool) (bytes : List ℕ) where
  -- no list of gates is closed where the first byte is another one
  no_closing : (test : ℕ → Bool) → test 93 ≡ false → first_is test bytes ≡ true → closing open_list bytes ≡ None
  no_closing test other is = by open_list (begins_with (codes "]|") bytes) refl
    where
      by : (opened begins : Bool) → begins_with (codes "]|") bytes ≡ begins
          → (if (opened && begins) then Some (lexeme_of GATES_CLOSE 2) else None) ≡ None
      by false begins is_so = refl
      by true false is_so = refl
      by true true is_so = absurd (begun_fails test (codes "]|") bytes is other (omega arith) is_so)

  never_closes : (n : ℕ) → open_list ≡ true → take n bytes ≡ codes "]|" → (open_list && begins_with (codes "]|") bytes) ≡ false → ⊥
  never_closes n opened is closed =
      let two : take 2 bytes ≡ codes "]|" = two_of n bytes is in
      fails (open_list && begins_with (codes "]|") bytes)
      (ap (λ (o : Bool). o && begins_with (codes "]|") bytes) opened ∙ so_begins (codes "]|") bytes two) closed
    where
      two_of : (n : ℕ) (bytes : List ℕ) → take n bytes ≡ codes "]|" → take 2 bytes ≡ codes "]|"
      two_of n bytes is =
          let long : length (take n bytes) ≡ 2 = ap (λ (bs : List ℕ). length bs) is in
          sym (take_less 2 n bytes (at_least n bytes long)) ∙ ap (take 2) is
        where
          at_least : (n : ℕ) (bytes : List ℕ) → length (take n bytes) ≡ 2 → 2 ≤ n
          at_least n bytes long = let most = no_more n bytes in omega (arith, most, long)
            where
              no_more : (n : ℕ) (bytes : List ℕ) → length (take n bytes) ≤ n
              no_more zero bytes = omega arith
              no_more (suc n) [] = omega arith
              no_more (suc n) (b ∷ bs) = let less = no_more n bs in omega (arith, less)

  module _ (no_letter : first_is is_ascii_alphabetic bytes ≡ false) (no_digit : first_is is_ascii_digit bytes ≡ false)
      (no_sign : first_is is_sign bytes ≡ false) where
    -- a token that fits is a fixed spelling, or closes a list of gates
    fixed_or_closing : (n kind : ℕ) → n ≤ length bytes → IsToken open_list kind (take n bytes)
        → ((row : ℕ) × IsRowAt all_fixed bytes row n kind) ⊎ ((open_list ≡ true) × (kind ≡ GATES_CLOSE) × (take n bytes ≡ codes "]|"))
    fixed_or_closing n kind within (a_word begins whole kind_is) =
        absurd (fails (first_is is_ascii_alphabetic bytes) (first_taken is_ascii_alphabetic n bytes begins) no_letter)
    fixed_or_closing n kind within (a_digit_name begins whole kind_is) =
        absurd (fails (first_is is_ascii_digit bytes) (first_taken is_ascii_digit n bytes begins) no_digit)
    fixed_or_closing n kind within (a_run begins whole kind_is) =
        absurd (fails (first_is is_sign bytes) (first_taken is_sign n bytes begins) no_sign)
    fixed_or_closing n kind within (a_fixed row found) = inl (row, (within, found))
    fixed_or_closing n kind within (closing_gates opened kind_is same) = inr (opened, kind_is, same)

    -- where no list of gates is closed here, the fixed spellings alone count
    fixed_taken : (found : Option Lexeme) → (open_list && begins_with (codes "]|") bytes) ≡ false → IsRowTaken all_fixed bytes found
        → IsTokenTaken open_list bytes found
    fixed_taken None closed taken = λ n kind within token. by n (fixed_or_closing n kind within token)
      where
        by : {kind : ℕ} (n : ℕ)
            → ((row : ℕ) × IsRowAt all_fixed bytes row n kind) ⊎ ((open_list ≡ true) × (kind ≡ GATES_CLOSE) × (take n bytes ≡ codes "]|"))
            → ⊥
        by n (inl row) = taken row.0 n _ row.1
        by n (inr closes) = never_closes n closes.0 closes.2 closed
    fixed_taken (Some lexeme) closed taken = record {
      within = taken.there.0;
      token = a_fixed taken.row taken.there.1;
      longest = λ n other within token. longest n other (fixed_or_closing n other within token);
      alone = λ other token. alone other (fixed_or_closing lexeme.length other taken.there.0 token);
    }
      where
        longest : (n other : ℕ)
            → ((row : ℕ) × IsRowAt all_fixed bytes row n other) ⊎ ((open_list ≡ true) × (other ≡ GATES_CLOSE) × (take n bytes ≡ codes "]|"))
            → n ≤ lexeme.length
        longest n other (inl row) = (taken.longest row.0 n other row.1).0
        longest n other (inr closes) = absurd (never_closes n closes.0 closes.2 closed)

        alone : (other : ℕ)
            → ((row : ℕ) × IsRowAt all_fixed bytes row lexeme.length other)
            ⊎ ((open_list ≡ true) × (other ≡ GATES_CLOSE) × (take lexeme.length bytes ≡ codes "]|"))
            → other ≡ lexeme.kind
        alone other (inl row) = (taken.longest row.0 lexeme.length other row.1).1 refl
        alone other (inr closes) = absurd (never_closes lexeme.length closes.0 closes.2 closed)

    -- where one is closed, its sign is the longest
    closing_taken : open_list ≡ true → begins_with (codes "]|") bytes ≡ true → IsLongest open_list bytes GATES_CLOSE 2
    closing_taken opened begins = record {
      within = room;
      token = closing_gates opened refl two;
      longest = λ n other within token. (fits n other within (fixed_or_closing n other within token)).0;
      alone = λ other token.
          (fits 2 other room (fixed_or_closing 2 other room token)).1 refl;
    }
      where
        two : take 2 bytes ≡ codes "]|"
        two = begins_so (codes "]|") bytes begins

        room : 2 ≤ length bytes
        room = within_taken 2 bytes (ap (λ (bs : List ℕ). length bs) two)

        bracket : first_is (λ byte. nat_eq byte 93) bytes ≡ true
        bracket = first_taken (λ byte. nat_eq byte 93) 2 bytes (ap (first_is (λ byte. nat_eq byte 93)) two)

        short : (n : ℕ) (row other : ℕ) → IsRowAt all_fixed bytes row n other → n < 2
        short zero row other at = omega arith
        short (suc n) row other at =
            let test = later_row (λ (r : Spelling). not (first_is (λ byte. nat_eq byte 93) r.0) || nat_lt (length r.0) 2) all_fixed row
            (take (suc n) bytes, other) refl at.1 in
            by (first_is (λ byte. nat_eq byte 93) (take (suc n) bytes))
            (first_stays (λ byte. nat_eq byte 93) (suc n) bytes bracket (omega arith)) test
          where
            by : (begins : Bool) → begins ≡ true → (not begins || nat_lt (length (take (suc n) bytes)) 2) ≡ true → suc n < 2
            by true is small =
                let less = ltb-true (length (take (suc n) bytes)) 2 small in
                let long = taken_long (suc n) bytes at.0 in omega (arith, less, long)
            by false is small = absurd (cc is)

        fits : (n other : ℕ) → n ≤ length bytes
            → ((row : ℕ) × IsRowAt all_fixed bytes row n other) ⊎ ((open_list ≡ true) × (other ≡ GATES_CLOSE) × (take n bytes ≡ codes "]|"))
            → (n ≤ 2) × (n ≡ 2 → other ≡ GATES_CLOSE)
        fits n other within (inl row) =
            let less = short n row.0 other row.1 in (omega (arith, less), λ same. absurd (omega (arith, less, same)))
        fits n other within (inr closes) =
            let long : length (take n bytes) ≡ 2 = ap (λ (bs : List ℕ). length bs) closes.2 in
            let same = taken_long n bytes within in (omega (arith, long, same), λ equal. closes.1)

    other_taken : IsTokenTaken open_list bytes
        (option_or (spelling_at operators bytes) (option_or (closing open_list bytes) (spelling_at single_signs bytes)))
    other_taken = by open_list refl (begins_with (codes "]|") bytes) refl
      where
        and_none : (b : Bool) → (b && false) ≡ false
        and_none true = refl
        and_none false = refl

        plain : (open_list && begins_with (codes "]|") bytes) ≡ false
            → IsTokenTaken open_list bytes (option_or (spelling_at operators bytes) (spelling_at single_signs bytes))
        plain closed =
            subst (IsTokenTaken open_list bytes) (spelled_in operators single_signs bytes)
            (fixed_taken (spelling_at all_fixed bytes) closed (rows_taken all_fixed bytes in_order))

        by : (opened : Bool) → open_list ≡ opened → (begins : Bool) → begins_with (codes "]|") bytes ≡ begins
            → IsTokenTaken open_list bytes
            (option_or (spelling_at operators bytes)
            (option_or (if (opened && begins) then Some (lexeme_of GATES_CLOSE 2) else None) (spelling_at single_signs bytes)))
        by true opened true begins =
            subst (λ (o : Option Lexeme). IsTokenTaken open_list bytes (option_or o (Some (lexeme_of GATES_CLOSE 2))))
            (sym (none_at (λ byte. nat_eq byte 93) operators bytes refl refl
            (first_taken (λ byte. nat_eq byte 93) 2 bytes (ap (first_is (λ byte. nat_eq byte 93)) (begins_so (codes "]|") bytes begins)))))
            (closing_taken opened begins)
        by true opened false begins = plain (ap (λ (b : Bool). open_list && b) begins ∙ and_none open_list)
        by false opened true begins = plain (ap (λ (o : Bool). o && begins_with (codes "]|") bytes) opened)
        by false opened false begins = plain (ap (λ (o : Bool). o && begins_with (codes "]|") bytes) opened)

pub tokens_are_longest : TokensAreLongest
tokens_are_longest open_list bytes =
    by (first_is is_ascii_alphabetic bytes) refl (first_is is_ascii_digit bytes) refl (first_is is_sign bytes) refl
  where
    by : (letter : Bool) → first_is is_ascii_alphabetic bytes ≡ letter → (digit : Bool) → first_is is_ascii_digit bytes ≡ digit
        → (sign : Bool) → first_is is_sign bytes ≡ sign
        → IsTokenTaken open_list bytes
        (option_or (if letter
        then Some (lexeme_of (unwrap_or (word_kind_in reserved_words (take (word_length bytes) bytes)) NAME) (word_length bytes))
        else None)
        (option_or (if digit then Some (lexeme_of DIGIT_NAME (word_length bytes)) else None)
        (option_or (spelling_at operators bytes)
        (option_or (closing open_list bytes)
        (option_or (if sign
        then Some (lexeme_of (unwrap_or (kind_in reserved_runs (take (prefix_len is_sign bytes) bytes)) SIGN_NAME)
        (prefix_len is_sign bytes))
        else None)
        (spelling_at single_signs bytes))))))
    by true letter digit is_digit sign is_sign_there = word_longest open_list bytes letter
    by false letter true is_digit sign is_sign_there = digit_longest open_list bytes is_digit
    by false letter false is_digit true is_sign_there =
        subst (λ (o : Option Lexeme). IsTokenTaken open_list bytes (option_or o (option_or (closing open_list bytes)
        (Some (lexeme_of (unwrap_or (kind_in reserved_runs (take (prefix_len is_sign bytes) bytes)) SIGN_NAME)
        (prefix_len is_sign bytes))))))
        (sym (none_at is_sign operators bytes refl refl is_sign_there))
        (subst (λ (o : Option Lexeme). IsTokenTaken open_list bytes (option_or o
        (Some (lexeme_of (unwrap_or (kind_in reserved_runs (take (prefix_len is_sign bytes) bytes)) SIGN_NAME)
        (prefix_len is_sign bytes)))))
        (sym (no_closing open_list bytes is_sign refl is_sign_there)) (run_longest open_list bytes is_sign_there))
    by false letter false is_digit false is_sign_there = other_taken open_list bytes letter is_digit is_sign_there
