use Rattle.std.proofs.Common.{◌≡◌, ℕ, zero, suc, ◌+◌, ◌<◌, ◌≤◌, Bool, true, false, ◌||◌, cond, List, [], ◌∷◌, take, length, eqb, Option, Some, None, IfSome, codes, refl, ap, arith, unwrap_or, lit<}
use Rattle.std.proofs.lemmas.List.{length-take}
use Rattle.std.proofs.lemmas.List.Sums.{prefix_len-le-length}
use Rattle.std.proofs.lemmas.Slice.Eq.{bytes_eq-Decides}
use Rattle.std.specs.List.{prefix_len}
use Rattle.std.specs.Option.{option_or}
use Rattle.std.specs.Char.{is_ascii_alphabetic, is_ascii_digit, is_ascii_alphanumeric}
use Rattle.std.specs.Int.{is_in_range}
use Rattle.lotos_lexer.specs.declared.lexemes.Lexeme.{Lexeme}
use Rattle.lotos_lexer.specs.Bytes.{begins_with, is_sign, IsSpan}
use Rattle.lotos_lexer.specs.Spellings.{Spelling, reserved_words, reserved_runs, operators, single_signs}
use Rattle.lotos_lexer.specs.declared.kinds.TheConstants.{NAME, DIGIT_NAME, SIGN_NAME, GATES_CLOSE}
use Rattle.lotos_lexer.specs.Lexemes.{word_length, underscore_before, spelling_at, kind_in, word_kind_in, word, digit_name, operator, closing, run_of_signs, lexeme_at}
use Rattle.lotos_base.proofs.Bytes.{letter_or_digit, digit_or_letter}

-- the lexeme, if there is one, spans some of the bytes
abbrev pub LexemeSpans : Option Lexeme → List ℕ → Type 0
LexemeSpans found bytes = IfSome found (λ lexeme. IsSpan lexeme.length bytes)

option_or-spans : (one other : Option Lexeme) (bytes : List ℕ) → LexemeSpans one bytes → LexemeSpans other bytes
    → LexemeSpans (option_or one other) bytes
option_or-spans None other bytes one_spans other_spans = other_spans
option_or-spans (Some lexeme) other bytes one_spans other_spans = one_spans

underscore_before-le : (more : ℕ) → underscore_before more ≤ suc more
underscore_before-le zero = omega arith
underscore_before-le (suc more) = omega arith

pub word_length-le : (bytes : List ℕ) → word_length bytes ≤ length bytes
word_length-le [] = omega arith
word_length-le (byte ∷ rest) =
    let below : word_length rest ≤ length rest = word_length-le rest in
    elim (is_ascii_alphanumeric byte) as (λ letter. cond letter (suc (word_length rest))
    (cond (eqb byte 95) (underscore_before (word_length rest)) 0) ≤ length (byte ∷ rest)) [
      | true ↦ omega arith
      | false ↦ elim (eqb byte 95) as (λ same. cond same (underscore_before (word_length rest)) 0 ≤ length (byte ∷ rest)) [
        | true ↦ omega (arith, underscore_before-le (word_length rest))
        | false ↦ omega arith
      ]
    ]

-- a word begins with a letter or a digit, and has it
word_length-spans : (byte : ℕ) (rest : List ℕ) → is_ascii_alphanumeric byte ≡ true → IsSpan (word_length (byte ∷ rest)) (byte ∷ rest)
word_length-spans byte rest letter =
    let length_is : word_length (byte ∷ rest) ≡ suc (word_length rest) = rw letter refl in
    (omega (arith, length_is), word_length-le (byte ∷ rest))

word-spans : (bytes : List ℕ) → LexemeSpans (word bytes) bytes
word-spans [] = tt
word-spans (byte ∷ rest) = go (is_ascii_alphabetic byte) refl
  where
    found : Lexeme
    found = record {
      kind = unwrap_or (word_kind_in reserved_words (take (word_length (byte ∷ rest)) (byte ∷ rest))) NAME;
      length = word_length (byte ∷ rest);
    }

    go : (letter : Bool) → is_ascii_alphabetic byte ≡ letter → LexemeSpans (cond letter (Some found) None) (byte ∷ rest)
    go true same = word_length-spans byte rest (letter_or_digit byte same)
    go false same = tt

digit_name-spans : (bytes : List ℕ) → LexemeSpans (digit_name bytes) bytes
digit_name-spans [] = tt
digit_name-spans (byte ∷ rest) = go (is_ascii_digit byte) refl
  where
    go : (digit : Bool) → is_ascii_digit byte ≡ digit → LexemeSpans
        (cond digit (Some (record { kind = DIGIT_NAME; length = word_length (byte ∷ rest) })) None) (byte ∷ rest)
    go true same = word_length-spans byte rest (digit_or_letter byte same)
    go false same = tt

-- bytes that begin with a spelling are as many at least
begins_with-le : (spelling bytes : List ℕ) → begins_with spelling bytes ≡ true → length spelling ≤ length bytes
begins_with-le spelling bytes begins =
    let same : spelling ≡ take (length spelling) bytes = (bytes_eq-Decides spelling (take (length spelling) bytes)).0 begins in
    omega (arith, ap length same, length-take (length spelling) bytes)

-- the spellings of a table have bytes
abbrev pub HaveBytes : List Spelling → Type 0
HaveBytes [] = Unit {0}
HaveBytes (row ∷ rows) = (0 < length row.0) × HaveBytes rows

operators_have_bytes : HaveBytes operators
operators_have_bytes = (lit< tt, (lit< tt, (lit< tt, (lit< tt, (lit< tt, (lit< tt, tt))))))

single_signs_have_bytes : HaveBytes single_signs
single_signs_have_bytes = (lit< tt, (lit< tt, (lit< tt, (lit< tt, (lit< tt, (lit< tt, (lit< tt, (lit< tt, (lit< tt, (lit< tt, tt))))))))))

spelling_at-spans : (table : List Spelling) (bytes : List ℕ) → HaveBytes table → LexemeSpans (spelling_at table bytes) bytes
spelling_at-spans [] bytes have = tt
spelling_at-spans (row ∷ rows) bytes have = go (begins_with row.0 bytes) refl (spelling_at-spans rows bytes have.1)
  where
    go : (begins : Bool) → begins_with row.0 bytes ≡ begins → LexemeSpans (spelling_at rows bytes) bytes
        → LexemeSpans (cond begins (Some (record { kind = row.1; length = length row.0 })) (spelling_at rows bytes)) bytes
    go true same rest = (have.0, begins_with-le row.0 bytes same)
    go false same rest = rest

closing-spans : (open_list : Bool) (bytes : List ℕ) → LexemeSpans (closing open_list bytes) bytes
closing-spans false bytes = tt
closing-spans true bytes = go (begins_with (codes "]|") bytes) refl
  where
    go : (begins : Bool) → begins_with (codes "]|") bytes ≡ begins
        → LexemeSpans (cond begins (Some (record { kind = GATES_CLOSE; length = 2 })) None) bytes
    go true same = (lit< tt, begins_with-le (codes "]|") bytes same)
    go false same = tt

run-spans : (bytes : List ℕ) → LexemeSpans (run_of_signs bytes) bytes
run-spans [] = tt
run-spans (byte ∷ rest) = go (is_sign byte) refl
  where
    bytes : List ℕ
    bytes = byte ∷ rest

    found : Lexeme
    found = record {
      kind = unwrap_or (kind_in reserved_runs (take (prefix_len is_sign bytes) bytes)) SIGN_NAME;
      length = prefix_len is_sign bytes;
    }

    go : (sign : Bool) → is_sign byte ≡ sign → LexemeSpans (cond sign (Some found) None) (byte ∷ rest)
    go true same =
        let more : prefix_len is_sign (byte ∷ rest) ≡ 1 + prefix_len is_sign rest = rw same refl in
        (omega (arith, more), prefix_len-le-length is_sign (byte ∷ rest))
    go false same = tt

-- the token that begins somewhere has some of the bytes there
pub lexeme_at_spans : (open_list : Bool) (bytes : List ℕ) → LexemeSpans (lexeme_at open_list bytes) bytes
lexeme_at_spans open_list bytes =
    option_or-spans (word bytes) _ bytes (word-spans bytes)
    (option_or-spans (digit_name bytes) _ bytes (digit_name-spans bytes)
    (option_or-spans (operator bytes) _ bytes (spelling_at-spans operators bytes operators_have_bytes)
    (option_or-spans (closing open_list bytes) _ bytes (closing-spans open_list bytes)
    (option_or-spans (run_of_signs bytes) _ bytes (run-spans bytes)
    (spelling_at-spans single_signs bytes single_signs_have_bytes)))))
