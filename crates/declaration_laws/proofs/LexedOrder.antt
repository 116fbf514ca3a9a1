-- The places of the tokens of a text rise.
use Rattle.std.proofs.Common.{◌≡◌, ◌<◌, ◌≤◌, ◌+◌, ◌-◌, ℕ, zero, suc, List, [], ◌∷◌, Bool, true, false, nat_eq, refl, ap, sym, ◌∙◌, subst, inl, inr, arith}
use Rattle.std.specs.Prelude.{◌⊎◌, ◌||◌, ◌&&◌, ◌==◌, nat_lt, if◌then◌else◌}
use Rattle.std.proofs.lemmas.Bool.{lt-ltb}
use Rattle.std.proofs.lemmas.Bool.Decides.{Decides-eqb}
use Rattle.std.proofs.Math.Bool.{or-true}
use Rattle.lotos_base.specs.Equation.{Place}
use Rattle.lotos_lexer.specs.declared.lexemes.Lexeme.{Lexeme}
use Rattle.lotos_lexer.specs.declared.positions.Position.{Position}
use Rattle.lotos_lexer.specs.declared.tokens.Token.{Token}
use Rattle.lotos_lexer.specs.declared.pieces.Piece.{Piece}
use Rattle.lotos_lexer.specs.declared.pieces.Piece.TheVariants as piece
use Rattle.lotos_lexer.specs.Pieces.{piece_at}
use Rattle.lotos_lexer.specs.Tokens as lexed
use Rattle.lotos_lexer.specs.Tokens.{Lexed, behind, at_next_line, at_next_column, token_at, with_token, list_open_behind, cut, start, tokens_of}
use Rattle.lotos_rows.specs.Names.{place_of}
use Rattle.scope_parts.specs.ScopeFault.{stands_before}
use Rattle.declaration_laws.proofs.TokenOrder.{At, Rises}

-- The place is in the text, at the position or behind it.
abbrev From : ℕ → Position → Place → Type 0
From number position q =
    (q.text ≡ number)
    × ((position.line < q.line) ⊎ ((position.line ≡ q.line) × (position.column ≤ q.column)))

-- The place is in the text, behind the position.
abbrev Past : ℕ → Position → Place → Type 0
Past number position q =
    (q.text ≡ number)
    × ((position.line < q.line) ⊎ ((position.line ≡ q.line) × (position.column < q.column)))

past_line : (number : ℕ) (position : Position) (q : Place) → From number (at_next_line position) q → Past number position q
past_line number position q h = (h.0, go h.1)
  where
    go : (position.line + 1 < q.line) ⊎ ((position.line + 1 ≡ q.line) × (1 ≤ q.column))
        → (position.line < q.line) ⊎ ((position.line ≡ q.line) × (position.column < q.column))
    go (inl less) = inl (omega (arith, less))
    go (inr same) = let at = same.0 in inl (omega (arith, at))

past_column : (number : ℕ) (position : Position) (q : Place) → From number (at_next_column position) q → Past number position q
past_column number position q h = (h.0, go h.1)
  where
    go : (position.line < q.line) ⊎ ((position.line ≡ q.line) × (position.column + 1 ≤ q.column))
        → (position.line < q.line) ⊎ ((position.line ≡ q.line) × (position.column < q.column))
    go (inl less) = inl less
    go (inr same) = let at = same.1 in inr (same.0, omega (arith, at))

past_byte : (number byte : ℕ) (position : Position) (q : Place) → From number (behind byte position) q → Past number position q
past_byte number byte position q = go (byte == 10)
  where
    go : (b : Bool) → From number (if b then at_next_line position else at_next_column position) q → Past number position q
    go true h = past_line number position q h
    go false h = past_column number position q h

from_past : (number : ℕ) (position : Position) (q : Place) → Past number position q → From number position q
from_past number position q h = (h.0, go h.1)
  where
    go : (position.line < q.line) ⊎ ((position.line ≡ q.line) × (position.column < q.column))
        → (position.line < q.line) ⊎ ((position.line ≡ q.line) × (position.column ≤ q.column))
    go (inl less) = inl less
    go (inr same) = let at = same.1 in inr (same.0, omega (arith, at))

-- a token at the position stands before what is behind it
stands : (number : ℕ) (position : Position) (lexeme : Lexeme) (q : Place) → Past number position q
    → stands_before (place_of (token_at number position lexeme)) q ≡ true
stands number position lexeme q h =
    let here : nat_eq number q.text ≡ true = (Decides-eqb number q.text).1 (sym h.0) in
    ap (λ (b : Bool). nat_lt number q.text
    || (b && (nat_lt position.line q.line || (nat_eq position.line q.line && nat_lt position.column q.column)))) here
    ∙ ap (λ (b : Bool). nat_lt number q.text || b) (go h.1)
    ∙ or-true (nat_lt number q.text)
  where
    go : (position.line < q.line) ⊎ ((position.line ≡ q.line) × (position.column < q.column))
        → (nat_lt position.line q.line || (nat_eq position.line q.line && nat_lt position.column q.column)) ≡ true
    go (inl less) =
        ap (λ (b : Bool). b || (nat_eq position.line q.line && nat_lt position.column q.column)) (lt-ltb position.line q.line less)
    go (inr same) =
        ap (λ (b : Bool). nat_lt position.line q.line || (b && nat_lt position.column q.column))
        ((Decides-eqb position.line q.line).1 same.0)
        ∙ ap (λ (b : Bool). nat_lt position.line q.line || b) (lt-ltb position.column q.column same.1)
        ∙ or-true (nat_lt position.line q.line)

-- The tokens stand in the text at the position or behind it, one behind the other.
record AreFrom (number : ℕ) (position : Position) (tokens : List Token) : Type 0 where
  from : (q : Place) → At q tokens → From number position q
  rise : Rises tokens

none_from : (number : ℕ) (position : Position) → AreFrom number position []
none_from number position = record { from = λ q at. absurd at; rise = tt }

later_from : (number byte : ℕ) (position : Position) (tokens : List Token) → AreFrom number (behind byte position) tokens
    → AreFrom number position tokens
later_from number byte position tokens h = record {
  from = λ q at. from_past number position q (past_byte number byte position q (h.from q at));
  rise = h.rise;
}

token_from : (number byte : ℕ) (position : Position) (lexeme : Lexeme) (tokens : List Token)
    → AreFrom number (behind byte position) tokens → AreFrom number position (token_at number position lexeme ∷ tokens)
token_from number byte position lexeme tokens h = record {
  from = from;
  rise = (λ q at. stands number position lexeme q (past_byte number byte position q (h.from q at)), h.rise);
}
  where
    here : From number position (place_of (token_at number position lexeme))
    here = (refl, inr (refl, omega arith))

    from : (q : Place) → At q (token_at number position lexeme ∷ tokens) → From number position q
    from q (inl same) = subst (λ (p : Place). From number position p) (sym same) here
    from q (inr at) = from_past number position q (past_byte number byte position q (h.from q at))

-- the same of what the rest of a text is cut into
abbrev LexedFrom : ℕ → Position → Lexed → Type 0
LexedFrom number position (lexed.Tokens tokens) = AreFrom number position tokens
LexedFrom number position (lexed.BadByte place) = Unit {0}
LexedFrom number position (lexed.OpenComment place) = Unit {0}

later_cut : (number byte : ℕ) (position : Position) (found : Lexed) → LexedFrom number (behind byte position) found
    → LexedFrom number position found
later_cut number byte position (lexed.Tokens tokens) h = later_from number byte position tokens h
later_cut number byte position (lexed.BadByte place) h = tt
later_cut number byte position (lexed.OpenComment place) h = tt

token_cut : (number byte : ℕ) (position : Position) (lexeme : Lexeme) (found : Lexed) → LexedFrom number (behind byte position) found
    → LexedFrom number position (with_token (token_at number position lexeme) found)
token_cut number byte position lexeme (lexed.Tokens tokens) h = token_from number byte position lexeme tokens h
token_cut number byte position lexeme (lexed.BadByte place) h = tt
token_cut number byte position lexeme (lexed.OpenComment place) h = tt

cut_from : (number inside : ℕ) (open_list : Bool) (position : Position) (bytes : List ℕ)
    → LexedFrom number position (cut number inside open_list position bytes)
cut_from number inside open_list position [] = none_from number position
cut_from number (suc inside) open_list position (byte ∷ rest) =
    later_cut number byte position (cut number inside open_list (behind byte position) rest)
    (cut_from number inside open_list (behind byte position) rest)
cut_from number zero open_list position (byte ∷ rest) =
    by (piece_at open_list (byte ∷ rest)) refl (λ inside opened. cut_from number inside opened (behind byte position) rest)
  where
    by : (found : Piece) → piece_at open_list (byte ∷ rest) ≡ found
        → ((inside : ℕ) (opened : Bool) → LexedFrom number (behind byte position) (cut number inside opened (behind byte position) rest))
        → LexedFrom number position (cut number zero open_list position (byte ∷ rest))
    by piece.Blank is more =
        rw (is, cut) (later_cut number byte position (cut number 0 open_list (behind byte position) rest) (more 0 open_list))
    by (piece.Comment count) is more =
        rw (is, cut) (later_cut number byte position (cut number (count - 1) open_list (behind byte position) rest)
        (more (count - 1) open_list))
    by (piece.Token lexeme) is more =
        rw (is, cut) (token_cut number byte position lexeme
        (cut number (lexeme.length - 1) (list_open_behind lexeme.kind open_list) (behind byte position) rest)
        (more (lexeme.length - 1) (list_open_behind lexeme.kind open_list)))
    by piece.Unclosed is more = rw (is, cut) tt
    by piece.Nothing is more = rw (is, cut) tt

pub tokens_rise : (number : ℕ) (text : List ℕ) (tokens : List Token) → tokens_of number text ≡ lexed.Tokens tokens → Rises tokens
tokens_rise number text tokens cut_into =
    (subst (λ (found : Lexed). LexedFrom number start found) cut_into (cut_from number 0 false start text)).rise
