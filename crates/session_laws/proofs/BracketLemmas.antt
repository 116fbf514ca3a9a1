-- Which tokens open a list of gates, which close one, and which do neither, by their bytes.
use Rattle.std.proofs.Common.{◌≡◌, ℕ, zero, suc, ◌+◌, ◌≤◌, Bool, true, false, ◌&&◌, ◌||◌, not, cond, if◌then◌else◌, List, [], ◌∷◌, length, codes, Some, unwrap_or, refl, ap, ◌∙◌, arith}
use Rattle.std.specs.Prelude.{◌==◌}
use Rattle.std.specs.List.{prefix_len, list_all}
use Rattle.std.specs.Str.{bytes_eq}
use Rattle.std.specs.Char.{is_ascii_alphanumeric}
use Rattle.std.proofs.lemmas.Bool.{and_parts, and_from}
use Rattle.std.proofs.lemmas.Bool.Decides.{Decides-eqb}
use Rattle.lotos_base.specs.Name.{folded}
use Rattle.lotos_lexer.specs.declared.kinds.TheConstants.{NAME, SIGN_NAME, GATES_OPEN, GATES_CLOSE, CHOICE_SIGN, RIGHT_BRACKET}
use Rattle.lotos_lexer.specs.Bytes.{is_sign}
use Rattle.lotos_lexer.specs.Spellings.{Spelling, reserved_words, reserved_runs}
use Rattle.lotos_lexer.specs.Lexemes.{underscore_before, word_length, kind_in, word_kind_in}
use Rattle.session_laws.specs.LongestTokens.{IsToken, a_word, a_digit_name, a_run, a_fixed, closing_gates}
use Rattle.lotos_lexer.proofs.Spans.{word_length-le}
use Rattle.session_laws.proofs.LongestLemmas.{all_fixed, later_row, sign_fails}

-- the byte is no `]`
abbrev pub is_no_bracket : ℕ → Bool
is_no_bracket byte = not (byte == 93)

-- a token of the kind closes a list of gates
abbrev pub closes : ℕ → Bool
closes kind = ((kind == GATES_CLOSE) || (kind == RIGHT_BRACKET)) || (kind == CHOICE_SIGN)

-- the kind opens a list where the bytes are `|[`, closes one where they have a `]`, and else does neither
abbrev pub fits : (opening closing : Bool) → List ℕ → Bool
fits true closing bytes = bytes_eq bytes (codes "|[")
fits false true bytes = not (list_all is_no_bracket bytes)
fits false false bytes = list_all is_no_bracket bytes

abbrev row_fits : Spelling → Bool
row_fits row = fits (row.1 == GATES_OPEN) (closes row.1) row.0

-- the kind leaves lists as they are
abbrev leaves : ℕ → Bool
leaves kind = not (kind == GATES_OPEN) && not (closes kind)

leaves_fit : (kind : ℕ) (bytes : List ℕ) → leaves kind ≡ true → list_all is_no_bracket bytes ≡ true
    → fits (kind == GATES_OPEN) (closes kind) bytes ≡ true
leaves_fit kind bytes is none = by (kind == GATES_OPEN) (closes kind) is
  where
    by : (opening closing : Bool) → (not opening && not closing) ≡ true → fits opening closing bytes ≡ true
    by true closing h = absurd (cc h)
    by false true h = absurd (cc h)
    by false false h = none

word_kind : (rows : List Spelling) (spelled : List ℕ) → list_all (λ (row : Spelling). leaves row.1) rows ≡ true
    → leaves (unwrap_or (word_kind_in rows spelled) NAME) ≡ true
word_kind [] spelled all = refl
word_kind (row ∷ rows) spelled all =
    let parts = and_parts (leaves row.1) (list_all (λ (r : Spelling). leaves r.1) rows) all in
    by (bytes_eq (folded row.0) (folded spelled)) parts.0 (word_kind rows spelled parts.1)
  where
    by : (same : Bool) → leaves row.1 ≡ true → leaves (unwrap_or (word_kind_in rows spelled) NAME) ≡ true
        → leaves (unwrap_or (if same then Some row.1 else word_kind_in rows spelled) NAME) ≡ true
    by true here rest = here
    by false here rest = rest

run_kind : (rows : List Spelling) (spelled : List ℕ) → list_all (λ (row : Spelling). leaves row.1) rows ≡ true
    → leaves (unwrap_or (kind_in rows spelled) SIGN_NAME) ≡ true
run_kind [] spelled all = refl
run_kind (row ∷ rows) spelled all =
    let parts = and_parts (leaves row.1) (list_all (λ (r : Spelling). leaves r.1) rows) all in
    by (bytes_eq row.0 spelled) parts.0 (run_kind rows spelled parts.1)
  where
    by : (same : Bool) → leaves row.1 ≡ true → leaves (unwrap_or (kind_in rows spelled) SIGN_NAME) ≡ true
        → leaves (unwrap_or (if same then Some row.1 else kind_in rows spelled) SIGN_NAME) ≡ true
    by true here rest = here
    by false here rest = rest

-- a byte that passes a test which `]` fails
other_byte : (test : ℕ → Bool) → test 93 ≡ false → (byte : ℕ) → test byte ≡ true → is_no_bracket byte ≡ true
other_byte test never byte is = by (byte == 93) refl
  where
    by : (same : Bool) → (byte == 93) ≡ same → not same ≡ true
    by true same = absurd (let e = ap test ((Decides-eqb byte 93).0 same) in cc (e, is, never))
    by false same = refl

word_bytes : (bytes : List ℕ) → word_length bytes ≡ length bytes → list_all is_no_bracket bytes ≡ true
word_bytes [] whole = refl
word_bytes (byte ∷ rest) whole =
    by (is_ascii_alphanumeric byte) refl (byte == 95) refl (word_length rest) whole (word_length-le rest) (word_bytes rest)
  where
    by : (letter : Bool) → is_ascii_alphanumeric byte ≡ letter → (line : Bool) → (byte == 95) ≡ line → (n : ℕ)
        → (if letter then suc n else if line then underscore_before n else 0) ≡ suc (length rest) → n ≤ length rest
        → (n ≡ length rest → list_all is_no_bracket rest ≡ true)
        → (is_no_bracket byte && list_all is_no_bracket rest) ≡ true
    by true letter line is_line n is within more =
        and_from (is_no_bracket byte) (list_all is_no_bracket rest) (other_byte is_ascii_alphanumeric refl byte letter)
        (more (let e = is in omega (arith, e)))
    by false letter true is_line zero is within more = absurd (cc is)
    by false letter true is_line (suc n) is within more =
        and_from (is_no_bracket byte) (list_all is_no_bracket rest) (other_byte (λ b. b == 95) refl byte is_line)
        (more (let e = is in omega (arith, e)))
    by false letter false is_line n is within more = absurd (cc is)

run_bytes : (bytes : List ℕ) → prefix_len is_sign bytes ≡ length bytes → list_all is_no_bracket bytes ≡ true
run_bytes [] whole = refl
run_bytes (byte ∷ rest) whole = by (is_sign byte) refl whole (run_bytes rest)
  where
    by : (sign : Bool) → is_sign byte ≡ sign → cond sign (1 + prefix_len is_sign rest) 0 ≡ suc (length rest)
        → (prefix_len is_sign rest ≡ length rest → list_all is_no_bracket rest ≡ true)
        → (is_no_bracket byte && list_all is_no_bracket rest) ≡ true
    by true sign is more =
        and_from (is_no_bracket byte) (list_all is_no_bracket rest)
        (ap not (sign_fails (λ b. b == 93) refl byte sign)) (more (let e = is in omega (arith, e)))
    by false sign is more = absurd (cc is)

pub token_fits : (open_list : Bool) (kind : ℕ) (bytes : List ℕ) → IsToken open_list kind bytes
    → fits (kind == GATES_OPEN) (closes kind) bytes ≡ true
token_fits open_list kind bytes (a_word begins whole kind_is) =
    leaves_fit kind bytes (ap leaves kind_is ∙ word_kind reserved_words bytes refl) (word_bytes bytes whole)
token_fits open_list kind bytes (a_digit_name begins whole kind_is) =
    leaves_fit kind bytes (ap leaves kind_is) (word_bytes bytes whole)
token_fits open_list kind bytes (a_run begins whole kind_is) =
    leaves_fit kind bytes (ap leaves kind_is ∙ run_kind reserved_runs bytes refl) (run_bytes bytes whole)
token_fits open_list kind bytes (a_fixed row found) = later_row row_fits all_fixed row (bytes, kind) refl found
token_fits open_list kind bytes (closing_gates opened kind_is same) =
    ap (λ (k : ℕ). fits (k == GATES_OPEN) (closes k) bytes) kind_is ∙ ap (fits false true) same
