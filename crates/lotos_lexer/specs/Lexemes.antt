-- The token that begins at a place, by its kind and its length.
use Rattle.std.specs.Prelude.{ℕ, zero, suc, Bool, ◌&&◌, if◌then◌else◌, List, [], ◌∷◌, codes, take, length, Option, Some, None, ◌==◌, unwrap_or}
use Rattle.std.specs.List.{prefix_len}
use Rattle.std.specs.Option.{option_or}
use Rattle.std.specs.Str.{bytes_eq}
use Rattle.std.specs.Char.{is_ascii_alphabetic, is_ascii_digit, is_ascii_alphanumeric}
use Rattle.lotos_base.specs.Name.{folded}
use Rattle.lotos_lexer.specs.declared.kinds.TheConstants.{NAME, DIGIT_NAME, SIGN_NAME, GATES_CLOSE}
use Rattle.lotos_lexer.specs.declared.lexemes.Lexeme.{Lexeme}
use Rattle.lotos_lexer.specs.Bytes.{first_is, begins_with, is_sign}
use Rattle.lotos_lexer.specs.Spellings.{Spelling, reserved_words, operators, reserved_runs, single_signs}

-- one more underscore in front of what follows of a word: it counts only where something follows
abbrev pub underscore_before : ℕ → ℕ
underscore_before zero = zero
underscore_before (suc more) = suc (suc more)

-- how many bytes make the word or the digit name that begins here: letters, digits, and each run of
-- underscores that stands before a letter or a digit
abbrev pub word_length : List ℕ → ℕ
word_length [] = 0
word_length (byte ∷ rest) =
    if is_ascii_alphanumeric byte then suc (word_length rest)
    else if byte == 95 then underscore_before (word_length rest)
    else 0

-- the kind of a spelling in a table
abbrev pub kind_in : List Spelling → List ℕ → Option ℕ
kind_in [] spelled = None
kind_in (row ∷ rows) spelled = if bytes_eq row.0 spelled then Some row.1 else kind_in rows spelled

-- the kind of a word in a table, without regard to letter case
abbrev pub word_kind_in : List Spelling → List ℕ → Option ℕ
word_kind_in [] spelled = None
word_kind_in (row ∷ rows) spelled = if bytes_eq (folded row.0) (folded spelled) then Some row.1 else word_kind_in rows spelled

-- a token of this kind with so many bytes
abbrev pub lexeme_of : ℕ → ℕ → Lexeme
lexeme_of kind length = record { kind = kind; length = length }

-- the first spelling of a table that the bytes begin with
abbrev pub spelling_at : List Spelling → List ℕ → Option Lexeme
spelling_at [] bytes = None
spelling_at (row ∷ rows) bytes = if begins_with row.0 bytes then Some (lexeme_of row.1 (length row.0)) else spelling_at rows bytes

-- a word: a letter, then letters, digits and inner underscores. It is a reserved one or
-- else a name
abbrev pub word : List ℕ → Option Lexeme
word bytes =
    if first_is is_ascii_alphabetic bytes
    then Some (lexeme_of (unwrap_or (word_kind_in reserved_words (take (word_length bytes) bytes)) NAME) (word_length bytes))
    else None

-- a digit name: a digit, then the same
abbrev pub digit_name : List ℕ → Option Lexeme
digit_name bytes = if first_is is_ascii_digit bytes then Some (lexeme_of DIGIT_NAME (word_length bytes)) else None

-- one of the signs of several bytes, the longest that fits
abbrev pub operator : List ℕ → Option Lexeme
operator bytes = spelling_at operators bytes

-- the sign that closes a gate list, where one is open
abbrev pub closing : Bool → List ℕ → Option Lexeme
closing open_list bytes = if open_list && begins_with (codes "]|") bytes then Some (lexeme_of GATES_CLOSE 2) else None

-- a run of signs, as long as possible. It is a reserved one or else a name
abbrev pub run_of_signs : List ℕ → Option Lexeme
run_of_signs bytes =
    if first_is is_sign bytes
    then Some (lexeme_of (unwrap_or (kind_in reserved_runs (take (prefix_len is_sign bytes) bytes)) SIGN_NAME) (prefix_len is_sign bytes))
    else None

-- a sign of one byte
abbrev pub single_sign : List ℕ → Option Lexeme
single_sign bytes = spelling_at single_signs bytes

-- the token that begins here, if any: the first of these that fits. A gate list is open after `|[`
-- until the next `]`
abbrev pub lexeme_at : Bool → List ℕ → Option Lexeme
lexeme_at open_list bytes =
    option_or (word bytes)
    (option_or (digit_name bytes)
    (option_or (operator bytes)
    (option_or (closing open_list bytes)
    (option_or (run_of_signs bytes)
    (single_sign bytes)))))
