-- The tokens of a text that are names are spelled so.
use Rattle.std.proofs.Common.{◌≡◌, ℕ, zero, suc, ◌+◌, ◌-◌, Bool, true, false, ◌&&◌, not, cond, nat_eq, if◌then◌else◌, List, [], ◌∷◌, take, drop, length, Option, None, Some, unwrap_or, refl, ap, sym, ◌∙◌, subst, arith, codes}
use Rattle.std.specs.Prelude.{IfSome}
use Rattle.std.specs.List.{prefix_len, list_all}
use Rattle.std.specs.Option.{option_or}
use Rattle.std.specs.Str.{bytes_eq}
use Rattle.std.specs.Char.{is_ascii_alphabetic, is_ascii_digit}
use Rattle.std.proofs.lemmas.Bool.{and_parts, eq-eqb}
use Rattle.lotos_base.specs.Name.{folded}
use Rattle.lotos_base.proofs.Bytes.{letter_or_digit, digit_or_letter}
use Rattle.lotos_base.proofs.Truth.{unit}
use Rattle.lotos_lexer.specs.declared.kinds.TheConstants.{NAME, DIGIT_NAME, SIGN_NAME, GATES_CLOSE}
use Rattle.lotos_lexer.specs.declared.lexemes.Lexeme.{Lexeme}
use Rattle.lotos_lexer.specs.declared.positions.Position.{Position}
use Rattle.lotos_lexer.specs.declared.tokens.Token.{Token}
use Rattle.lotos_lexer.specs.declared.pieces.Piece.{Piece}
use Rattle.lotos_lexer.specs.declared.pieces.Piece.TheVariants as piece
use Rattle.lotos_lexer.specs.Bytes.{first_is, begins_with, is_sign, is_blank}
use Rattle.lotos_lexer.specs.Spellings.{Spelling, reserved_words, operators, reserved_runs, single_signs}
use Rattle.lotos_lexer.specs.Lexemes.{word_length, kind_in, word_kind_in, lexeme_of, spelling_at, word, digit_name, operator, closing, run_of_signs, single_sign, lexeme_at}
use Rattle.lotos_lexer.specs.Pieces.{close_at, comment, token, piece_at}
use Rattle.lotos_lexer.specs.Tokens as lexed
use Rattle.lotos_lexer.specs.Tokens.{Lexed, behind, token_at, with_token, list_open_behind, cut, start, tokens_of}
use Rattle.lotos_lexer.proofs.Spans.{word_length-le}
use Rattle.session_laws.proofs.WordLemmas.{word_again, run_within, run_again, taken_long, first_stays, word_some, run_some, first_alphanumeric}
use Rattle.session_laws.proofs.CutPieces.{offset_behind}
use Rattle.lotos_rows.specs.Names.{spelled}
use Rattle.behaviour_semantics.specs.WellFormed.{Every}
use Rattle.session_laws.specs.TextNames.{IsWordSpelling, IsDigitSpelling, IsSignSpelling}

-- ---- What a token of a kind is spelled as

pub record IsSpelled (kind : ℕ) (name : List ℕ) : Type 0 where
  pub as_word : kind ≡ NAME → IsWordSpelling name
  pub as_digits : kind ≡ DIGIT_NAME → IsDigitSpelling name
  pub as_signs : kind ≡ SIGN_NAME → IsSignSpelling name

-- a kind with a fixed spelling
abbrev is_fixed : ℕ → Bool
is_fixed kind = not (nat_eq kind NAME) && (not (nat_eq kind DIGIT_NAME) && not (nat_eq kind SIGN_NAME))

other_kind : (kind other : ℕ) → not (nat_eq kind other) ≡ true → kind ≡ other → ⊥
other_kind kind other apart same = let one = eq-eqb kind other same in absurd (cc (apart, one))

fixed_spelled : (kind : ℕ) (name : List ℕ) → is_fixed kind ≡ true → IsSpelled kind name
fixed_spelled kind name is =
    let outer = and_parts (not (nat_eq kind NAME)) (not (nat_eq kind DIGIT_NAME) && not (nat_eq kind SIGN_NAME)) is in
    let inner = and_parts (not (nat_eq kind DIGIT_NAME)) (not (nat_eq kind SIGN_NAME)) outer.1 in
    record {
      as_word = λ same. absurd (other_kind kind NAME outer.0 same);
      as_digits = λ same. absurd (other_kind kind DIGIT_NAME inner.0 same);
      as_signs = λ same. absurd (other_kind kind SIGN_NAME inner.1 same);
    }

word_spelled : (name : List ℕ) → IsWordSpelling name → IsSpelled NAME name
word_spelled name is = record { as_word = λ same. is; as_digits = λ same. absurd (cc same); as_signs = λ same. absurd (cc same) }

digits_spelled : (name : List ℕ) → IsDigitSpelling name → IsSpelled DIGIT_NAME name
digits_spelled name is = record { as_word = λ same. absurd (cc same); as_digits = λ same. is; as_signs = λ same. absurd (cc same) }

signs_spelled : (name : List ℕ) → IsSignSpelling name → IsSpelled SIGN_NAME name
signs_spelled name is = record { as_word = λ same. absurd (cc same); as_digits = λ same. absurd (cc same); as_signs = λ same. is }

-- ---- Tables

abbrev AreFixed : List Spelling → Type 0
AreFixed rows = list_all (λ (row : Spelling). is_fixed row.1) rows ≡ true

abbrev FixedFound : Option ℕ → Type 0
FixedFound found = IfSome found (λ kind. is_fixed kind ≡ true)

word_fixed : (rows : List Spelling) (spelling : List ℕ) → AreFixed rows → FixedFound (word_kind_in rows spelling)
word_fixed [] spelling all = tt
word_fixed (row ∷ rows) spelling all =
    let parts = and_parts (is_fixed row.1) (list_all (λ (r : Spelling). is_fixed r.1) rows) all in
    by (bytes_eq (folded row.0) (folded spelling)) parts.0 (word_fixed rows spelling parts.1)
  where
    by : (same : Bool) → is_fixed row.1 ≡ true → FixedFound (word_kind_in rows spelling)
        → FixedFound (cond same (Some row.1) (word_kind_in rows spelling))
    by true here rest = here
    by false here rest = rest

run_fixed : (rows : List Spelling) (spelling : List ℕ) → AreFixed rows → FixedFound (kind_in rows spelling)
run_fixed [] spelling all = tt
run_fixed (row ∷ rows) spelling all =
    let parts = and_parts (is_fixed row.1) (list_all (λ (r : Spelling). is_fixed r.1) rows) all in
    by (bytes_eq row.0 spelling) parts.0 (run_fixed rows spelling parts.1)
  where
    by : (same : Bool) → is_fixed row.1 ≡ true → FixedFound (kind_in rows spelling)
        → FixedFound (cond same (Some row.1) (kind_in rows spelling))
    by true here rest = here
    by false here rest = rest

-- ---- Lexemes

-- the lexeme that is found is spelled as its kind asks
abbrev Spells : List ℕ → Option Lexeme → Type 0
Spells bytes found = IfSome found (λ lexeme. IsSpelled lexeme.kind (take lexeme.length bytes))

table_spells : (rows : List Spelling) (bytes : List ℕ) → AreFixed rows → Spells bytes (spelling_at rows bytes)
table_spells [] bytes all = tt
table_spells (row ∷ rows) bytes all =
    let parts = and_parts (is_fixed row.1) (list_all (λ (r : Spelling). is_fixed r.1) rows) all in
    by (begins_with row.0 bytes) (fixed_spelled row.1 (take (length row.0) bytes) parts.0) (table_spells rows bytes parts.1)
  where
    by : (same : Bool) → IsSpelled row.1 (take (length row.0) bytes) → Spells bytes (spelling_at rows bytes)
        → Spells bytes (cond same (Some (lexeme_of row.1 (length row.0))) (spelling_at rows bytes))
    by true here rest = here
    by false here rest = rest

-- the bytes of a word or a digit name
word_whole : (bytes : List ℕ) → word_length (take (word_length bytes) bytes) ≡ length (take (word_length bytes) bytes)
word_whole bytes = word_again bytes ∙ sym (taken_long (word_length bytes) bytes (word_length-le bytes))

word_spells : (bytes : List ℕ) → Spells bytes (word bytes)
word_spells bytes = by (first_is is_ascii_alphabetic bytes) refl
  where
    kinds : (begins : first_is is_ascii_alphabetic bytes ≡ true) (found : Option ℕ)
        → word_kind_in reserved_words (take (word_length bytes) bytes) ≡ found → FixedFound found
        → IsSpelled (unwrap_or found NAME) (take (word_length bytes) bytes)
    kinds begins None none fixed = word_spelled (take (word_length bytes) bytes) (record {
      begins =
          first_stays is_ascii_alphabetic (word_length bytes) bytes begins
          (word_some bytes (first_alphanumeric is_ascii_alphabetic letter_or_digit bytes begins));
      whole = word_whole bytes;
      not_reserved = none;
    })
    kinds begins (Some kind) found fixed = fixed_spelled kind (take (word_length bytes) bytes) fixed

    by : (begins : Bool) → first_is is_ascii_alphabetic bytes ≡ begins
        → Spells bytes (if begins
        then Some (lexeme_of (unwrap_or (word_kind_in reserved_words (take (word_length bytes) bytes)) NAME) (word_length bytes))
        else None)
    by true begins =
        kinds begins (word_kind_in reserved_words (take (word_length bytes) bytes)) refl
        (word_fixed reserved_words (take (word_length bytes) bytes) refl)
    by false begins = tt

digit_spells : (bytes : List ℕ) → Spells bytes (digit_name bytes)
digit_spells bytes = by (first_is is_ascii_digit bytes) refl
  where
    by : (begins : Bool) → first_is is_ascii_digit bytes ≡ begins
        → Spells bytes (if begins then Some (lexeme_of DIGIT_NAME (word_length bytes)) else None)
    by true begins = digits_spelled (take (word_length bytes) bytes) (record {
      begins =
          first_stays is_ascii_digit (word_length bytes) bytes begins
          (word_some bytes (first_alphanumeric is_ascii_digit digit_or_letter bytes begins));
      whole = word_whole bytes;
    })
    by false begins = tt

closing_spells : (open_list : Bool) (bytes : List ℕ) → Spells bytes (closing open_list bytes)
closing_spells open_list bytes = by (open_list && begins_with (codes "]|") bytes)
  where
    by : (closes : Bool) → Spells bytes (if closes then Some (lexeme_of GATES_CLOSE 2) else None)
    by true = fixed_spelled GATES_CLOSE (take 2 bytes) refl
    by false = tt

run_spells : (bytes : List ℕ) → Spells bytes (run_of_signs bytes)
run_spells bytes = by (first_is is_sign bytes) refl
  where
    kinds : (begins : first_is is_sign bytes ≡ true) (found : Option ℕ)
        → kind_in reserved_runs (take (prefix_len is_sign bytes) bytes) ≡ found → FixedFound found
        → IsSpelled (unwrap_or found SIGN_NAME) (take (prefix_len is_sign bytes) bytes)
    kinds begins None none fixed = signs_spelled (take (prefix_len is_sign bytes) bytes) (record {
      begins = first_stays is_sign (prefix_len is_sign bytes) bytes begins (run_some is_sign bytes begins);
      whole = run_again is_sign bytes ∙ sym (taken_long (prefix_len is_sign bytes) bytes (run_within is_sign bytes));
      not_reserved = none;
    })
    kinds begins (Some kind) found fixed = fixed_spelled kind (take (prefix_len is_sign bytes) bytes) fixed

    by : (begins : Bool) → first_is is_sign bytes ≡ begins
        → Spells bytes (if begins
        then Some (lexeme_of (unwrap_or (kind_in reserved_runs (take (prefix_len is_sign bytes) bytes)) SIGN_NAME)
        (prefix_len is_sign bytes))
        else None)
    by true begins =
        kinds begins (kind_in reserved_runs (take (prefix_len is_sign bytes) bytes)) refl
        (run_fixed reserved_runs (take (prefix_len is_sign bytes) bytes) refl)
    by false begins = tt

or_spells : (bytes : List ℕ) (one other : Option Lexeme) → Spells bytes one → Spells bytes other → Spells bytes (option_or one other)
or_spells bytes None other first second = second
or_spells bytes (Some lexeme) other first second = first

lexeme_spells : (open_list : Bool) (bytes : List ℕ) → Spells bytes (lexeme_at open_list bytes)
lexeme_spells open_list bytes =
    or_spells bytes (word bytes) _ (word_spells bytes)
    (or_spells bytes (digit_name bytes) _ (digit_spells bytes)
    (or_spells bytes (operator bytes) _ (table_spells operators bytes refl)
    (or_spells bytes (closing open_list bytes) _ (closing_spells open_list bytes)
    (or_spells bytes (run_of_signs bytes) (single_sign bytes) (run_spells bytes) (table_spells single_signs bytes refl)))))

-- ---- Pieces

abbrev PieceSpells : List ℕ → Piece → Type 0
PieceSpells bytes (piece.Token lexeme) = IsSpelled lexeme.kind (take lexeme.length bytes)
PieceSpells bytes _ = Unit {0}

piece_spells : (open_list : Bool) (bytes : List ℕ) → PieceSpells bytes (piece_at open_list bytes)
piece_spells open_list bytes =
    by (first_is is_blank bytes) (begins_with (codes "(*") bytes) (close_at (drop 2 bytes)) (lexeme_at open_list bytes)
    (lexeme_spells open_list bytes)
  where
    by : (blank opens : Bool) (closed : Option ℕ) (found : Option Lexeme) → Spells bytes found
        → PieceSpells bytes (if blank then piece.Blank else if opens then comment closed else token found)
    by true opens closed found spells = unit
    by false true None found spells = unit
    by false true (Some n) found spells = unit
    by false false closed None spells = unit
    by false false closed (Some lexeme) spells = spells

-- ---- Tokens of a text

-- the token is spelled as its kind asks
abbrev pub IsSpelledIn : List ℕ → Token → Type 0
IsSpelledIn text it = IsSpelled it.kind (spelled text it)

abbrev LexedSpells : List ℕ → Lexed → Type 0
LexedSpells text (lexed.Tokens tokens) = Every (IsSpelledIn text) tokens
LexedSpells text (lexed.BadByte place) = Unit {0}
LexedSpells text (lexed.OpenComment place) = Unit {0}

with_spells : (text : List ℕ) (it : Token) (found : Lexed) → IsSpelledIn text it → LexedSpells text found
    → LexedSpells text (with_token it found)
with_spells text it (lexed.Tokens tokens) is rest = (is, rest)
with_spells text it (lexed.BadByte place) is rest = unit
with_spells text it (lexed.OpenComment place) is rest = unit

drop_suc : (n : ℕ) (text rest : List ℕ) (byte : ℕ) → drop n text ≡ byte ∷ rest → drop (suc n) text ≡ rest
drop_suc zero text rest byte is = ap (drop 1) is
drop_suc (suc n) [] rest byte is = absurd (cc is)
drop_suc (suc n) (other ∷ text) rest byte is = drop_suc n text rest byte is

drop_next : (n : ℕ) (text rest : List ℕ) (byte : ℕ) → drop n text ≡ byte ∷ rest → drop (n + 1) text ≡ rest
drop_next n text rest byte is =
    let one : n + 1 ≡ suc n = omega arith in ap (λ (m : ℕ). drop m text) one ∙ drop_suc n text rest byte is

next_there : (text rest : List ℕ) (byte : ℕ) (position : Position) → drop position.offset text ≡ byte ∷ rest
    → drop (behind byte position).offset text ≡ rest
next_there text rest byte position is =
    ap (λ (n : ℕ). drop n text) (offset_behind byte position) ∙ drop_next position.offset text rest byte is

token_spelled : (text bytes : List ℕ) (number : ℕ) (position : Position) (lexeme : Lexeme) → drop position.offset text ≡ bytes
    → IsSpelled lexeme.kind (take lexeme.length bytes) → IsSpelledIn text (token_at number position lexeme)
token_spelled text bytes number position lexeme there is =
    let length_is : lexeme.length ≡ (position.offset + lexeme.length) - position.offset = omega arith in
    subst (λ (name : List ℕ). IsSpelled lexeme.kind name)
    (ap (take lexeme.length) (sym there) ∙ ap (λ (n : ℕ). take n (drop position.offset text)) length_is) is

cut_spells : (text bytes : List ℕ) (number inside : ℕ) (open_list : Bool) (position : Position) → drop position.offset text ≡ bytes
    → LexedSpells text (cut number inside open_list position bytes)
cut_spells text [] number inside open_list position there = unit
cut_spells text (byte ∷ rest) number (suc inside) open_list position there =
    cut_spells text rest number inside open_list (behind byte position) (next_there text rest byte position there)
cut_spells text (byte ∷ rest) number zero open_list position there =
    by (piece_at open_list (byte ∷ rest)) refl (piece_spells open_list (byte ∷ rest))
    (λ inside opened. cut_spells text rest number inside opened (behind byte position) (next_there text rest byte position there))
  where
    by : (found : Piece) → piece_at open_list (byte ∷ rest) ≡ found → PieceSpells (byte ∷ rest) found
        → ((inside : ℕ) (opened : Bool) → LexedSpells text (cut number inside opened (behind byte position) rest))
        → LexedSpells text (cut number zero open_list position (byte ∷ rest))
    by piece.Blank is spells more = rw (is, cut) (more 0 open_list)
    by (piece.Comment count) is spells more = rw (is, cut) (more (count - 1) open_list)
    by (piece.Token lexeme) is spells more =
        rw (is, cut) (with_spells text (token_at number position lexeme)
        (cut number (lexeme.length - 1) (list_open_behind lexeme.kind open_list) (behind byte position) rest)
        (token_spelled text (byte ∷ rest) number position lexeme there spells)
        (more (lexeme.length - 1) (list_open_behind lexeme.kind open_list)))
    by piece.Unclosed is spells more = rw (is, cut) unit
    by piece.Nothing is spells more = rw (is, cut) unit

pub tokens_spelled : (number : ℕ) (text : List ℕ) (tokens : List Token) → tokens_of number text ≡ lexed.Tokens tokens
    → Every (IsSpelledIn text) tokens
tokens_spelled number text tokens is =
    subst (LexedSpells text) is (cut_spells text text number 0 false start refl)
