-- What tokens are spelled as, and that of those that fit at a place the longest one is taken.
use Rattle.std.specs.Prelude.{◌≡◌, ℕ, ◌≤◌, Bool, true, List, ◌++◌, codes, take, length, slice_get, Option, Some, None, unwrap_or}
use Rattle.std.specs.List.{prefix_len}
use Rattle.std.specs.Char.{is_ascii_alphabetic, is_ascii_digit}
use Rattle.lotos_lexer.specs.declared.kinds.TheConstants.{NAME, DIGIT_NAME, SIGN_NAME, GATES_CLOSE}
use Rattle.lotos_lexer.specs.declared.lexemes.Lexeme.{Lexeme}
use Rattle.lotos_lexer.specs.Bytes.{first_is, is_sign}
use Rattle.lotos_lexer.specs.Spellings.{reserved_words, operators, reserved_runs, single_signs}
use Rattle.lotos_lexer.specs.Lexemes.{word_length, kind_in, word_kind_in, lexeme_at}

-- The bytes are a token of this kind: a word, which begins with a letter and goes on with letters, digits and inner underscores, and
-- is a reserved one or else a name; a digit name, which begins with a digit; a run of signs, reserved or else a name; one of the
-- other fixed spellings; or, where a list of gates is open, the sign that closes it.
pub data IsToken (open_list : Bool) : (kind : ℕ) → List ℕ → Type 0 where
  a_word : {kind : ℕ} {bytes : List ℕ} → first_is is_ascii_alphabetic bytes ≡ true → word_length bytes ≡ length bytes
      → kind ≡ unwrap_or (word_kind_in reserved_words bytes) NAME → IsToken open_list kind bytes
  a_digit_name : {kind : ℕ} {bytes : List ℕ} → first_is is_ascii_digit bytes ≡ true → word_length bytes ≡ length bytes → kind ≡ DIGIT_NAME
      → IsToken open_list kind bytes
  a_run : {kind : ℕ} {bytes : List ℕ} → first_is is_sign bytes ≡ true → prefix_len is_sign bytes ≡ length bytes
      → kind ≡ unwrap_or (kind_in reserved_runs bytes) SIGN_NAME → IsToken open_list kind bytes
  a_fixed : {kind : ℕ} {bytes : List ℕ} (row : ℕ) → slice_get (operators ++ single_signs) row ≡ Some (bytes, kind)
      → IsToken open_list kind bytes
  closing_gates : {kind : ℕ} {bytes : List ℕ} → open_list ≡ true → kind ≡ GATES_CLOSE → bytes ≡ codes "]|" → IsToken open_list kind bytes

-- so many of the bytes are a token of the kind, no more of them are one, and these are one of no other kind
pub record IsLongest (open_list : Bool) (bytes : List ℕ) (kind count : ℕ) : Type 0 where
  pub within : count ≤ length bytes
  pub token : IsToken open_list kind (take count bytes)
  pub longest : (n other : ℕ) → n ≤ length bytes → IsToken open_list other (take n bytes) → n ≤ count
  pub alone : (other : ℕ) → IsToken open_list other (take count bytes) → other ≡ kind

-- no beginning of the bytes is a token
abbrev pub HasNoToken : Bool → List ℕ → Type 0
HasNoToken open_list bytes = (n kind : ℕ) → n ≤ length bytes → ¬ IsToken open_list kind (take n bytes)

abbrev pub IsTokenTaken : Bool → List ℕ → Option Lexeme → Type 0
IsTokenTaken open_list bytes None = HasNoToken open_list bytes
IsTokenTaken open_list bytes (Some lexeme) = IsLongest open_list bytes lexeme.kind lexeme.length

abbrev pub TokensAreLongest : Type 0
TokensAreLongest = (open_list : Bool) (bytes : List ℕ) → IsTokenTaken open_list bytes (lexeme_at open_list bytes)
