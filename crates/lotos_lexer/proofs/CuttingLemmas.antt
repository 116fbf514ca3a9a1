use Rattle.std.proofs.Common.{◌≡◌, ℕ, zero, suc, ◌+◌, ◌-◌, ◌<◌, ◌≤◌, Bool, List, [], ◌∷◌, ◌++◌, take, drop, length, refl, sym, ap, ◌∙◌, arith}
use Rattle.std.proofs.lemmas.List.{drop-drop}
use Rattle.lotos_base.specs.declared.places.Place.{Place}
use Rattle.lotos_lexer.specs.declared.lexemes.Lexeme.{Lexeme}
use Rattle.lotos_lexer.specs.declared.positions.Position.{Position}
use Rattle.lotos_lexer.specs.declared.tokens.Token.{Token}
use Rattle.lotos_lexer.specs.declared.pieces.Piece.TheVariants as piece
use Rattle.lotos_lexer.specs.Bytes.{IsSpan}
use Rattle.lotos_lexer.specs.Pieces.{piece_at}
use Rattle.lotos_lexer.specs.Tokens.{Lexed, Tokens, BadByte, OpenComment, with_token, behind, behind_all, place_at, token_at, list_open_behind, cut}
use Rattle.lotos_lexer.specs.Cutting.{with_tokens}

pub with_tokens-added : (tokens : List Token) (token : Token) (lexed : Lexed)
    → with_tokens (tokens ++ token ∷ []) lexed ≡ with_tokens tokens (with_token token lexed)
with_tokens-added [] token lexed = refl
with_tokens-added (first ∷ rest) token lexed = ap (with_token first) (with_tokens-added rest token lexed)

pub with_tokens-Tokens : (tokens : List Token) → with_tokens tokens (Tokens []) ≡ Tokens tokens
with_tokens-Tokens [] = refl
with_tokens-Tokens (first ∷ rest) = ap (with_token first) (with_tokens-Tokens rest)

pub with_tokens-BadByte : (tokens : List Token) (place : Place) → with_tokens tokens (BadByte place) ≡ BadByte place
with_tokens-BadByte [] place = refl
with_tokens-BadByte (first ∷ rest) place = ap (with_token first) (with_tokens-BadByte rest place)

pub with_tokens-OpenComment : (tokens : List Token) (place : Place) → with_tokens tokens (OpenComment place) ≡ OpenComment place
with_tokens-OpenComment [] place = refl
with_tokens-OpenComment (first ∷ rest) place = ap (with_token first) (with_tokens-OpenComment rest place)

-- the bytes inside a piece are passed
cut-inside : (number inside : ℕ) (open_list : Bool) (position : Position) (bytes : List ℕ) → inside ≤ length bytes
    → cut number inside open_list position bytes ≡ cut number 0 open_list (behind_all (take inside bytes) position) (drop inside bytes)
cut-inside number zero open_list position bytes within = refl
cut-inside number (suc inside) open_list position [] within = absurd (omega arith)
cut-inside number (suc inside) open_list position (byte ∷ rest) within =
    cut-inside number inside open_list (behind byte position) rest (omega arith)

-- a piece of `count` bytes is passed
cut-passed : (number count : ℕ) (open_list : Bool) (position : Position) (byte : ℕ) (rest : List ℕ) → IsSpan count (byte ∷ rest)
    → cut number (count - 1) open_list (behind byte position) rest
    ≡ cut number 0 open_list (behind_all (take count (byte ∷ rest)) position) (drop count (byte ∷ rest))
cut-passed number zero open_list position byte rest span = absurd (omega (arith, span.0))
cut-passed number (suc count) open_list position byte rest span =
    let less : suc count - 1 ≡ count = omega arith in
    let within : count ≤ length rest = omega (arith, span.1) in
    rw less (cut-inside number count open_list (behind byte position) rest within)

pub cut-blank : (number : ℕ) (open_list : Bool) (position : Position) (bytes : List ℕ) → IsSpan 1 bytes
    → piece_at open_list bytes ≡ piece.Blank
    → cut number 0 open_list position bytes ≡ cut number 0 open_list (behind_all (take 1 bytes) position) (drop 1 bytes)
cut-blank number open_list position [] span blank = absurd (omega (arith, span.1))
cut-blank number open_list position (byte ∷ rest) span blank = rw (blank, cut) refl

pub cut-comment : (number count : ℕ) (open_list : Bool) (position : Position) (bytes : List ℕ) → IsSpan count bytes
    → piece_at open_list bytes ≡ piece.Comment count
    → cut number 0 open_list position bytes ≡ cut number 0 open_list (behind_all (take count bytes) position) (drop count bytes)
cut-comment number count open_list position [] span comment = absurd (omega (arith, span))
cut-comment number count open_list position (byte ∷ rest) span comment =
    rw (comment, cut) (cut-passed number count open_list position byte rest span)

pub cut-token : (number : ℕ) (lexeme : Lexeme) (open_list : Bool) (position : Position) (bytes : List ℕ) → IsSpan lexeme.length bytes
    → piece_at open_list bytes ≡ piece.Token lexeme
    → cut number 0 open_list position bytes
    ≡ with_token (token_at number position lexeme)
    (cut number 0 (list_open_behind lexeme.kind open_list) (behind_all (take lexeme.length bytes) position) (drop lexeme.length bytes))
cut-token number lexeme open_list position [] span token = absurd (omega (arith, span))
cut-token number lexeme open_list position (byte ∷ rest) span token =
    rw (token, cut) (ap (with_token (token_at number position lexeme))
    (cut-passed number lexeme.length (list_open_behind lexeme.kind open_list) position byte rest span))

pub cut-unclosed : (number : ℕ) (open_list : Bool) (position : Position) (bytes : List ℕ) → 0 < length bytes
    → piece_at open_list bytes ≡ piece.Unclosed
    → cut number 0 open_list position bytes ≡ OpenComment (place_at number position)
cut-unclosed number open_list position [] some unclosed = absurd (omega arith)
cut-unclosed number open_list position (byte ∷ rest) some unclosed = rw (unclosed, cut) refl

pub cut-nothing : (number : ℕ) (open_list : Bool) (position : Position) (bytes : List ℕ) → 0 < length bytes
    → piece_at open_list bytes ≡ piece.Nothing
    → cut number 0 open_list position bytes ≡ BadByte (place_at number position)
cut-nothing number open_list position [] some nothing = absurd (omega arith)
cut-nothing number open_list position (byte ∷ rest) some nothing = rw (nothing, cut) refl

-- behind a piece the rest of the text is cut from there
pub step_on : (number : ℕ) (text bytes : List ℕ) (count : ℕ) (open_list : Bool) (position position' : Position)
    (tokens tokens' : List Token) (open_list' : Bool)
    → bytes ≡ drop position.offset text
    → position' ≡ behind_all (take count bytes) position → position'.offset ≡ position.offset + count
    → with_tokens tokens (cut number 0 open_list position bytes)
    ≡ with_tokens tokens' (cut number 0 open_list' (behind_all (take count bytes) position) (drop count bytes))
    → with_tokens tokens' (cut number 0 open_list' position' (drop position'.offset text))
    ≡ with_tokens tokens (cut number 0 open_list position (drop position.offset text))
step_on number text bytes count open_list position position' tokens tokens' open_list' rest moved offset exact =
    let behind_it : drop count bytes ≡ drop position'.offset text =
    ap (drop count) rest ∙ (drop-drop count position.offset text ∙ ap (λ n. drop n text) (sym offset)) in
    ap (λ it. with_tokens tokens' (cut number 0 open_list' position' it)) (sym behind_it)
    ∙ (ap (λ it. with_tokens tokens' (cut number 0 open_list' it (drop count bytes))) moved
    ∙ (sym exact ∙ ap (λ it. with_tokens tokens (cut number 0 open_list position it)) rest))
