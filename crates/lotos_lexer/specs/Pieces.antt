-- What begins at a place of a text: a blank, a comment, a token, or nothing.
use Rattle.std.specs.Prelude.{ℕ, suc, ◌+◌, Bool, if◌then◌else◌, List, [], ◌∷◌, codes, drop, Option, Some, None, option_map}
use Rattle.lotos_lexer.specs.declared.lexemes.Lexeme.{Lexeme}
use Rattle.lotos_lexer.specs.declared.pieces.Piece.{Piece}
use Rattle.lotos_lexer.specs.declared.pieces.Piece.TheVariants.{Blank, Comment, Unclosed, Token, Nothing}
use Rattle.lotos_lexer.specs.Bytes.{first_is, begins_with, is_blank, IsSpan}
use Rattle.lotos_lexer.specs.Lexemes.{lexeme_at}

-- how many bytes there are up to the next `*)` and with it
abbrev pub close_at : List ℕ → Option ℕ
close_at [] = None
close_at (byte ∷ rest) = if begins_with (codes "*)") (byte ∷ rest) then Some 2 else option_map suc (close_at rest)

-- a comment, given where it is closed behind its `(*`
abbrev pub comment : Option ℕ → Piece
comment None = Unclosed
comment (Some closed) = Comment (2 + closed)

-- a token, if there is one
abbrev pub token : Option Lexeme → Piece
token None = Nothing
token (Some lexeme) = Token lexeme

-- what begins here: a blank, a comment, or else a token
abbrev pub piece_at : Bool → List ℕ → Piece
piece_at open_list bytes =
    if first_is is_blank bytes then Blank
    else if begins_with (codes "(*") bytes then comment (close_at (drop 2 bytes))
    else token (lexeme_at open_list bytes)

-- a blank, a comment or a token spans some of the bytes
abbrev pub Spans : Piece → List ℕ → Type 0
Spans Blank bytes = IsSpan 1 bytes
Spans (Comment count) bytes = IsSpan count bytes
Spans (Token lexeme) bytes = IsSpan lexeme.length bytes
Spans Unclosed bytes = Unit {0}
Spans Nothing bytes = Unit {0}
