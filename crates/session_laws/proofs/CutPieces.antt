-- Parts of a text that are cut into tokens, one behind another.
use Rattle.std.proofs.Common.{◌≡◌, ℕ, ◌+◌, ◌-◌, ◌<◌, ◌≤◌, Bool, true, false, List, [], ◌∷◌, ◌++◌, take, drop, length, refl, ap, sym, ◌∙◌, arith, append_assoc, length-append}
use Rattle.std.specs.Prelude.{◌==◌, if◌then◌else◌}
use Rattle.std.proofs.Math.Seq.{take-append_seam, drop-append_seam}
use Rattle.lotos_lexer.specs.declared.positions.Position.{Position}
use Rattle.lotos_lexer.specs.declared.tokens.Token.{Token}
use Rattle.lotos_lexer.specs.declared.pieces.Piece.TheVariants as piece
use Rattle.lotos_lexer.specs.Lexemes.{lexeme_of}
use Rattle.lotos_lexer.specs.Pieces.{piece_at}
use Rattle.lotos_lexer.specs.Tokens.{Lexed, start, behind, behind_all, at_next_line, at_next_column, with_token, token_at, list_open_behind, cut}
use Rattle.lotos_lexer.specs.Cutting.{with_tokens}
use Rattle.lotos_lexer.proofs.CuttingLemmas.{cut-token}
use Rattle.lotos_rows.specs.Names.{spelled}

-- behind these bytes of a text
abbrev pub behind_bytes : List ℕ → Position
behind_bytes before = behind_all before start

-- the bytes behind `before` are cut into the tokens, whatever the text goes on with
abbrev pub IsCut : ℕ → List ℕ → List ℕ → List ℕ → List Token → Type 0
IsCut number before bytes rest tokens =
    cut number 0 false (behind_bytes before) (bytes ++ rest)
    ≡ with_tokens tokens (cut number 0 false (behind_bytes (before ++ bytes)) rest)

pub behind_joined : (xs ys : List ℕ) (position : Position) → behind_all (xs ++ ys) position ≡ behind_all ys (behind_all xs position)
behind_joined [] ys position = refl
behind_joined (x ∷ xs) ys position = behind_joined xs ys (behind x position)

with_tokens_joined : (ts us : List Token) (lexed : Lexed) → with_tokens (ts ++ us) lexed ≡ with_tokens ts (with_tokens us lexed)
with_tokens_joined [] us lexed = refl
with_tokens_joined (t ∷ ts) us lexed = ap (with_token t) (with_tokens_joined ts us lexed)

pub cut_joined : (number : ℕ) (before xs ys rest : List ℕ) (ts us : List Token) → IsCut number before xs (ys ++ rest) ts
    → IsCut number (before ++ xs) ys rest us → IsCut number before (xs ++ ys) rest (ts ++ us)
cut_joined number before xs ys rest ts us first second =
    ap (λ (bytes : List ℕ). cut number 0 false (behind_bytes before) bytes) (append_assoc xs ys rest)
    ∙ first
    ∙ ap (with_tokens ts) second
    ∙ ap (λ (bytes : List ℕ). with_tokens ts (with_tokens us (cut number 0 false (behind_bytes bytes) rest))) (append_assoc before xs ys)
    ∙ sym (with_tokens_joined ts us (cut number 0 false (behind_bytes (before ++ (xs ++ ys))) rest))

-- one token
pub cut_one : (number : ℕ) (before bytes rest : List ℕ) (kind : ℕ) → 0 < length bytes
    → piece_at false (bytes ++ rest) ≡ piece.Token (lexeme_of kind (length bytes)) → list_open_behind kind false ≡ false
    → IsCut number before bytes rest (token_at number (behind_bytes before) (lexeme_of kind (length bytes)) ∷ [])
cut_one number before bytes rest kind some there closed =
    cut-token number (lexeme_of kind (length bytes)) false (behind_bytes before) (bytes ++ rest) span there
    ∙ ap (λ (o : Bool). with_token token (cut number 0 o (behind_all (take (length bytes) (bytes ++ rest)) (behind_bytes before))
    (drop (length bytes) (bytes ++ rest)))) closed
    ∙ ap (λ (taken : List ℕ). with_token token (cut number 0 false (behind_all taken (behind_bytes before))
    (drop (length bytes) (bytes ++ rest)))) (take-append_seam bytes rest)
    ∙ ap (λ (left : List ℕ). with_token token (cut number 0 false (behind_all bytes (behind_bytes before)) left))
    (drop-append_seam bytes rest)
    ∙ ap (λ (position : Position). with_token token (cut number 0 false position rest)) (sym (behind_joined before bytes start))
  where
    token : Token
    token = token_at number (behind_bytes before) (lexeme_of kind (length bytes))

    span : (0 < length bytes) × (length bytes ≤ length (bytes ++ rest))
    span = (some, omega (arith, length-append bytes rest))

-- one blank
pub cut_blank : (number : ℕ) (before rest : List ℕ) → IsCut number before (32 ∷ []) rest []
cut_blank number before rest =
    ap (λ (position : Position). cut number 0 false position rest) (sym (behind_joined before (32 ∷ []) start))

-- ---- The bytes of a token

pub offset_behind : (byte : ℕ) (position : Position) → (behind byte position).offset ≡ position.offset + 1
offset_behind byte position = by (byte == 10)
  where
    by : (feed : Bool) → (if feed then at_next_line position else at_next_column position).offset ≡ position.offset + 1
    by true = refl
    by false = refl

offset_behind_all : (bytes : List ℕ) (position : Position) → (behind_all bytes position).offset ≡ position.offset + length bytes
offset_behind_all [] position = omega arith
offset_behind_all (byte ∷ bytes) position =
    offset_behind_all bytes (behind byte position)
    ∙ (let here : (behind byte position).offset ≡ position.offset + 1 = offset_behind byte position in omega (arith, here))

offset_there : (before : List ℕ) → (behind_bytes before).offset ≡ length before
offset_there before = let moved : (behind_all before start).offset ≡ 0 + length before =
    offset_behind_all before start in omega (arith, moved)

pub spelled_there : (number : ℕ) (text before bytes rest : List ℕ) (kind : ℕ) → text ≡ before ++ (bytes ++ rest)
    → spelled text (token_at number (behind_bytes before) (lexeme_of kind (length bytes))) ≡ bytes
spelled_there number text before bytes rest kind is =
    ap (λ (n : ℕ). take ((n + length bytes) - n) (drop n text)) (offset_there before)
    ∙ ap (λ (it : List ℕ). take ((length before + length bytes) - length before) (drop (length before) it)) is
    ∙ ap (λ (it : List ℕ). take ((length before + length bytes) - length before) it) (drop-append_seam before (bytes ++ rest))
    ∙ ap (λ (n : ℕ). take n (bytes ++ rest)) less
    ∙ take-append_seam bytes rest
  where
    less : (length before + length bytes) - length before ≡ length bytes
    less = omega arith
