-- A name is one token where what stands behind it goes on with no word and no run of signs.
use Rattle.std.proofs.Common.{◌≡◌, ℕ, suc, ◌+◌, ◌<◌, Bool, true, false, ◌&&◌, ◌||◌, cond, not, List, [], ◌∷◌, ◌++◌, take, drop, length, Option, Some, None, codes, refl, ap, sym, ◌∙◌, arith, unwrap_or}
use Rattle.std.specs.Prelude.{if◌then◌else◌, ◌==◌, nat_eq, nat_le}
use Rattle.std.specs.List.{prefix_len, list_any, list_all}
use Rattle.std.specs.Option.{option_or}
use Rattle.std.specs.Char.{is_ascii_alphabetic, is_ascii_digit, is_ascii_alphanumeric}
use Rattle.std.specs.Int.{is_in_range}
use Rattle.std.proofs.Math.Seq.{take-append_seam}
use Rattle.std.proofs.lemmas.Bool.{and_parts, leb-true, not-true}
use Rattle.std.proofs.lemmas.Bool.Decides.{Decides-eqb}
use Rattle.lotos_lexer.specs.declared.lexemes.Lexeme.{Lexeme}
use Rattle.lotos_lexer.specs.declared.kinds.TheConstants.{NAME, DIGIT_NAME, SIGN_NAME}
use Rattle.lotos_lexer.specs.declared.pieces.Piece.TheVariants as piece
use Rattle.lotos_lexer.specs.Bytes.{first_is, begins_with, is_blank, is_sign}
use Rattle.lotos_lexer.specs.Lexemes.{underscore_before, word_length, kind_in, word_kind_in, lexeme_of, spelling_at, word, digit_name, operator, closing, run_of_signs, single_sign, lexeme_at}
use Rattle.lotos_lexer.specs.Pieces.{close_at, comment, token, piece_at}
use Rattle.lotos_lexer.specs.Spellings.{Spelling, reserved_words, operators, reserved_runs}
use Rattle.session_laws.specs.TextNames.{IsWordSpelling, IsDigitSpelling, IsSignSpelling}
use Rattle.lotos_base.proofs.Bytes.{letter_or_digit, digit_or_letter}

-- no word and no run of signs goes on with these bytes
pub record IsApart (rest : List ℕ) : Type 0 where
  pub no_word : word_length rest ≡ 0
  pub no_run : prefix_len is_sign rest ≡ 0

-- ---- Bytes of one class are of no other

-- the test of each byte of a list
each_in : (bytes : List ℕ) (test : ℕ → Bool) → list_all test bytes ≡ true → (b : ℕ) → list_any (λ x. x == b) bytes ≡ true → test b ≡ true
each_in [] test all b is = cc
each_in (x ∷ xs) test all b is = by (x == b) refl (test x) refl all is (λ rest found. each_in xs test rest b found)
  where
    by : (same : Bool) → (x == b) ≡ same → (here : Bool) → test x ≡ here → (here && list_all test xs) ≡ true
        → (same || list_any (λ y. y == b) xs) ≡ true
        → (list_all test xs ≡ true → list_any (λ y. y == b) xs ≡ true → test b ≡ true) → test b ≡ true
    by true same true here rest is below = ap test (sym ((Decides-eqb x b).0 same)) ∙ here
    by true same false here rest is below = cc
    by false same true here rest is below = below rest is
    by false same false here rest is below = cc

-- a byte that fails the test of each of a list is not in it
not_in : (bytes : List ℕ) (test : ℕ → Bool) → list_all (λ x. not (test x)) bytes ≡ true → (b : ℕ) → test b ≡ true
    → list_any (λ x. x == b) bytes ≡ false
not_in bytes test none b is = by (list_any (λ x. x == b) bytes) refl
  where
    by : (found : Bool) → list_any (λ x. x == b) bytes ≡ found → found ≡ false
    by false found = refl
    by true found =
        let fails : not (test b) ≡ true = each_in bytes (λ x. not (test x)) none b found in
        let passes : not (test b) ≡ false = ap not is in
        sym fails ∙ passes

or_none : (x : Bool) → (x || false) ≡ false → x ≡ false
or_none true h = h
or_none false h = refl

not_parenthesis : (test : ℕ → Bool) → not (test 40) ≡ true → (b : ℕ) → test b ≡ true → nat_eq 40 b ≡ false
not_parenthesis test none b is = or_none (nat_eq 40 b) (not_in (40 ∷ []) test (ap (λ x. x && true) none) b is)

-- ---- What begins here

-- no blank and no comment begins with the byte
pub record BeginsToken (b : ℕ) : Type 0 where
  pub no_blank : is_blank b ≡ false
  pub no_comment : nat_eq 40 b ≡ false

pub alphanumeric_token : (b : ℕ) → is_ascii_alphanumeric b ≡ true → BeginsToken b
alphanumeric_token b is = record {
  no_blank = not_in (codes " \t\n\r") is_ascii_alphanumeric refl b is;
  no_comment = not_parenthesis is_ascii_alphanumeric refl b is;
}

pub sign_token : (b : ℕ) → is_sign b ≡ true → BeginsToken b
sign_token b is = record {
  no_blank = not_in (codes " \t\n\r") is_sign refl b is;
  no_comment = not_parenthesis is_sign refl b is;
}

-- the piece at a lexeme
token_there : (b : ℕ) (bytes : List ℕ) (l : Lexeme) → BeginsToken b → lexeme_at false (b ∷ bytes) ≡ Some l
    → piece_at false (b ∷ bytes) ≡ piece.Token l
token_there b bytes l begins there =
    by (is_blank b) begins.no_blank (nat_eq 40 b) begins.no_comment (begins_with (codes "*") bytes) (close_at (drop 2 (b ∷ bytes)))
    (lexeme_at false (b ∷ bytes)) there
  where
    by : (blank : Bool) → blank ≡ false → (opened : Bool) → opened ≡ false → (more : Bool) → (closed : Option ℕ) → (found : Option Lexeme)
        → found ≡ Some l
        → (if blank then piece.Blank else (if (opened && more) then comment closed else token found)) ≡ piece.Token l
    by true h opened k more closed found there = cc
    by false h true k more closed found there = cc
    by false h false k more closed found there = ap token there

-- ---- Lexemes

or_first : (one other : Option Lexeme) (l : Lexeme) → one ≡ Some l → option_or one other ≡ Some l
or_first one other l is = ap (λ (o : Option Lexeme). option_or o other) is

or_later : (one other : Option Lexeme) (l : Lexeme) → one ≡ None → other ≡ Some l → option_or one other ≡ Some l
or_later one other l none is = ap (λ (o : Option Lexeme). option_or o other) none ∙ is

-- the length of a word, and of a run of signs, hangs on the name alone
word_stops : (name rest : List ℕ) → word_length rest ≡ 0 → word_length (name ++ rest) ≡ word_length name
word_stops [] rest none = none
word_stops (b ∷ bs) rest none =
    ap (λ n. if is_ascii_alphanumeric b then suc n else (if b == 95 then underscore_before n else 0)) (word_stops bs rest none)

run_stops : (name rest : List ℕ) → prefix_len is_sign rest ≡ 0 → prefix_len is_sign (name ++ rest) ≡ prefix_len is_sign name
run_stops [] rest none = none
run_stops (b ∷ bs) rest none = ap (λ n. cond (is_sign b) (1 + n) 0) (run_stops bs rest none)

-- a lexeme whose kind hangs on its bytes
lexeme_found : (kind_for : List ℕ → ℕ) (test : Bool) (count : ℕ) (name rest : List ℕ) (kind : ℕ) → test ≡ true → count ≡ length name
    → kind_for name ≡ kind
    → (if test then Some (lexeme_of (kind_for (take count (name ++ rest))) count) else None) ≡ Some (lexeme_of kind (length name))
lexeme_found kind_for test count name rest kind begins whole is =
    ap (λ (t : Bool). if t then Some (lexeme_of (kind_for (take count (name ++ rest))) count) else None) begins
    ∙ ap (λ (n : ℕ). Some (lexeme_of (kind_for (take n (name ++ rest))) n)) whole
    ∙ ap (λ (bytes : List ℕ). Some (lexeme_of (kind_for bytes) (length name))) (take-append_seam name rest)
    ∙ ap (λ (k : ℕ). Some (lexeme_of k (length name))) is

or_unreserved : (found : Option ℕ) (kind : ℕ) → found ≡ None → unwrap_or found kind ≡ kind
or_unreserved found kind none = ap (λ (o : Option ℕ). unwrap_or o kind) none

word_found : (name rest : List ℕ) → IsWordSpelling name → IsApart rest → word (name ++ rest) ≡ Some (lexeme_of NAME (length name))
word_found [] rest is apart = let never : false ≡ true = is.begins in cc
word_found (b ∷ bs) rest is apart =
    lexeme_found (λ bytes. unwrap_or (word_kind_in reserved_words bytes) NAME) (is_ascii_alphabetic b) (word_length (b ∷ (bs ++ rest)))
    (b ∷ bs) rest NAME is.begins (word_stops (b ∷ bs) rest apart.no_word ∙ is.whole)
    (or_unreserved (word_kind_in reserved_words (b ∷ bs)) NAME is.not_reserved)

digit_found : (name rest : List ℕ) → IsDigitSpelling name → IsApart rest
    → digit_name (name ++ rest) ≡ Some (lexeme_of DIGIT_NAME (length name))
digit_found [] rest is apart = let never : false ≡ true = is.begins in cc
digit_found (b ∷ bs) rest is apart =
    lexeme_found (λ bytes. DIGIT_NAME) (is_ascii_digit b) (word_length (b ∷ (bs ++ rest))) (b ∷ bs) rest DIGIT_NAME is.begins
    (word_stops (b ∷ bs) rest apart.no_word ∙ is.whole) refl

run_found : (name rest : List ℕ) → IsSignSpelling name → IsApart rest
    → run_of_signs (name ++ rest) ≡ Some (lexeme_of SIGN_NAME (length name))
run_found [] rest is apart = let never : false ≡ true = is.begins in cc
run_found (b ∷ bs) rest is apart =
    lexeme_found (λ bytes. unwrap_or (kind_in reserved_runs bytes) SIGN_NAME) (is_sign b) (prefix_len is_sign (b ∷ (bs ++ rest)))
    (b ∷ bs) rest SIGN_NAME is.begins (run_stops (b ∷ bs) rest apart.no_run ∙ is.whole)
    (or_unreserved (kind_in reserved_runs (b ∷ bs)) SIGN_NAME is.not_reserved)

-- ---- What begins with a digit or a sign is no word, and what begins with a sign no digit name and none of the fixed signs

no_word : (b : ℕ) (bytes : List ℕ) → is_ascii_alphabetic b ≡ false → word (b ∷ bytes) ≡ None
no_word b bytes is =
    ap (λ (t : Bool). if t then Some (lexeme_of (unwrap_or (word_kind_in reserved_words (take (word_length (b ∷ bytes)) (b ∷ bytes))) NAME)
    (word_length (b ∷ bytes))) else None)
    is

no_digit_name : (b : ℕ) (bytes : List ℕ) → is_ascii_digit b ≡ false → digit_name (b ∷ bytes) ≡ None
no_digit_name b bytes is = ap (λ (t : Bool). if t then Some (lexeme_of DIGIT_NAME (word_length (b ∷ bytes))) else None) is

-- no spelling of the table begins with the byte
abbrev DiffersFrom : List Spelling → ℕ → Type 0
DiffersFrom table b = list_all (λ (row : Spelling). first_is (λ c. not (c == b)) row.0) table ≡ true

begins_otherwise : (spelling : List ℕ) (b : ℕ) (bytes : List ℕ) → first_is (λ c. not (c == b)) spelling ≡ true
    → begins_with spelling (b ∷ bytes) ≡ false
begins_otherwise [] b bytes differs = cc
begins_otherwise (c ∷ cs) b bytes differs = by (nat_eq c b) differs (begins_with cs bytes)
  where
    by : (same : Bool) → not same ≡ true → (more : Bool) → (same && more) ≡ false
    by true h more = cc
    by false h more = refl

no_spelling : (table : List Spelling) (b : ℕ) (bytes : List ℕ) → DiffersFrom table b → spelling_at table (b ∷ bytes) ≡ None
no_spelling [] b bytes differ = refl
no_spelling (row ∷ rows) b bytes differ =
    by (first_is (λ c. not (c == b)) row.0) refl differ (λ rest. no_spelling rows b bytes rest)
  where
    by : (other : Bool) → first_is (λ c. not (c == b)) row.0 ≡ other
        → (other && list_all (λ (r : Spelling). first_is (λ c. not (c == b)) r.0) rows) ≡ true
        → (DiffersFrom rows b → spelling_at rows (b ∷ bytes) ≡ None) → spelling_at (row ∷ rows) (b ∷ bytes) ≡ None
    by true other rest below =
        ap (λ (t : Bool). if t then Some (lexeme_of row.1 (length row.0)) else spelling_at rows (b ∷ bytes))
        (begins_otherwise row.0 b bytes other)
        ∙ below rest
    by false other rest below = cc

below_letters : (b lower upper : ℕ) → nat_le b 57 ≡ true → 57 < lower → is_in_range lower upper b ≡ false
below_letters b lower upper digit past = by (nat_le lower b) refl
  where
    by : (above : Bool) → nat_le lower b ≡ above → (above && nat_le b upper) ≡ false
    by true above = absurd (omega (arith, leb-true lower b above, leb-true b 57 digit, past))
    by false above = refl

pub digit_no_letter : (b : ℕ) → is_ascii_digit b ≡ true → is_ascii_alphabetic b ≡ false
digit_no_letter b is =
    let small : nat_le b 57 ≡ true = (and_parts (nat_le 48 b) (nat_le b 57) is).1 in
    neither (is_in_range 65 90 b) (is_in_range 97 122 b) (below_letters b 65 90 small (omega arith))
    (below_letters b 97 122 small (omega arith))
  where
    neither : (upper lower : Bool) → upper ≡ false → lower ≡ false → (upper || lower) ≡ false
    neither true lower h k = h
    neither false lower h k = k

pub sign_no_letter : (b : ℕ) → is_sign b ≡ true → is_ascii_alphabetic b ≡ false
sign_no_letter b is = not-true (is_ascii_alphabetic b) (each_in (codes "#%&*+-./<=>@\\^~{}") (λ x. not (is_ascii_alphabetic x)) refl b is)

pub sign_no_digit : (b : ℕ) → is_sign b ≡ true → is_ascii_digit b ≡ false
sign_no_digit b is = not-true (is_ascii_digit b) (each_in (codes "#%&*+-./<=>@\\^~{}") (λ x. not (is_ascii_digit x)) refl b is)

sign_no_operator : (b : ℕ) → is_sign b ≡ true → DiffersFrom operators b
sign_no_operator b is =
    each_in (codes "#%&*+-./<=>@\\^~{}") (λ x. list_all (λ (row : Spelling). first_is (λ c. not (c == x)) row.0) operators) refl b is

-- ---- The token of a name

word_lexeme : (name rest : List ℕ) → IsWordSpelling name → IsApart rest
    → lexeme_at false (name ++ rest) ≡ Some (lexeme_of NAME (length name))
word_lexeme name rest is apart = or_first (word (name ++ rest)) _ (lexeme_of NAME (length name)) (word_found name rest is apart)

digit_lexeme : (b : ℕ) (bs rest : List ℕ) → IsDigitSpelling (b ∷ bs) → IsApart rest
    → lexeme_at false (b ∷ (bs ++ rest)) ≡ Some (lexeme_of DIGIT_NAME (length (b ∷ bs)))
digit_lexeme b bs rest is apart =
    or_later (word (b ∷ (bs ++ rest))) _ (lexeme_of DIGIT_NAME (length (b ∷ bs))) (no_word b (bs ++ rest) (digit_no_letter b is.begins))
    (or_first (digit_name (b ∷ (bs ++ rest))) _ (lexeme_of DIGIT_NAME (length (b ∷ bs))) (digit_found (b ∷ bs) rest is apart))

sign_lexeme : (b : ℕ) (bs rest : List ℕ) → IsSignSpelling (b ∷ bs) → IsApart rest
    → lexeme_at false (b ∷ (bs ++ rest)) ≡ Some (lexeme_of SIGN_NAME (length (b ∷ bs)))
sign_lexeme b bs rest is apart =
    or_later (word bytes) _ l (no_word b (bs ++ rest) (sign_no_letter b is.begins))
    (or_later (digit_name bytes) _ l (no_digit_name b (bs ++ rest) (sign_no_digit b is.begins))
    (or_later (operator bytes) _ l (no_spelling operators b (bs ++ rest) (sign_no_operator b is.begins))
    (or_later (closing false bytes) _ l refl
    (or_first (run_of_signs bytes) (single_sign bytes) l (run_found (b ∷ bs) rest is apart)))))
  where
    bytes : List ℕ
    bytes = b ∷ (bs ++ rest)

    l : Lexeme
    l = lexeme_of SIGN_NAME (length (b ∷ bs))

-- a piece that is the name, with this kind
abbrev pub IsNamePiece : ℕ → List ℕ → List ℕ → Type 0
IsNamePiece kind name rest = piece_at false (name ++ rest) ≡ piece.Token (lexeme_of kind (length name))

pub word_piece : (name rest : List ℕ) → IsWordSpelling name → IsApart rest → IsNamePiece NAME name rest
word_piece [] rest is apart = let never : false ≡ true = is.begins in cc
word_piece (b ∷ bs) rest is apart =
    token_there b (bs ++ rest) _ (alphanumeric_token b (letter_or_digit b is.begins)) (word_lexeme (b ∷ bs) rest is apart)

pub digit_piece : (name rest : List ℕ) → IsDigitSpelling name → IsApart rest → IsNamePiece DIGIT_NAME name rest
digit_piece [] rest is apart = let never : false ≡ true = is.begins in cc
digit_piece (b ∷ bs) rest is apart =
    token_there b (bs ++ rest) _ (alphanumeric_token b (digit_or_letter b is.begins)) (digit_lexeme b bs rest is apart)

pub sign_piece : (name rest : List ℕ) → IsSignSpelling name → IsApart rest → IsNamePiece SIGN_NAME name rest
sign_piece [] rest is apart = let never : false ≡ true = is.begins in cc
sign_piece (b ∷ bs) rest is apart =
    token_there b (bs ++ rest) _ (sign_token b is.begins) (sign_lexeme b bs rest is apart)
