-- The tokens of a text with their places, or the first fault of the text.
use Rattle.std.specs.Prelude.{ℕ, zero, suc, ◌≡◌, ◌<◌, ◌≤◌, length, ◌+◌, ◌-◌, Bool, true, false, ◌||◌, if◌then◌else◌, List, [], ◌∷◌, ◌==◌}
use Rattle.lotos_base.specs.declared.places.Place.{Place}
use Rattle.lotos_lexer.specs.declared.kinds.TheConstants.{GATES_OPEN, GATES_CLOSE, CHOICE_SIGN, RIGHT_BRACKET}
use Rattle.lotos_lexer.specs.declared.lexemes.Lexeme.{Lexeme}
use Rattle.lotos_lexer.specs.declared.positions.Position.{Position}
use Rattle.lotos_lexer.specs.declared.tokens.Token.{Token}
use Rattle.lotos_lexer.specs.declared.tokens.LexFault.{LexFault}
use Rattle.lotos_lexer.specs.declared.tokens.LexFault.TheVariants as fault
use Rattle.lotos_lexer.specs.declared.pieces.Piece.TheVariants as piece
use Rattle.lotos_lexer.specs.Pieces.{piece_at}

-- the position at the start of a text
abbrev pub start : Position
start = record { offset = 0; line = 1; column = 1 }

-- the position at the start of the next line
abbrev pub at_next_line : Position → Position
at_next_line position = record { offset = position.offset + 1; line = position.line + 1; column = 1 }

-- the position one column further on
abbrev pub at_next_column : Position → Position
at_next_column position = record { offset = position.offset + 1; line = position.line; column = position.column + 1 }

-- the position behind one more byte: a line feed ends a line
abbrev pub behind : ℕ → Position → Position
behind byte position = if byte == 10 then at_next_line position else at_next_column position

-- the position behind more bytes
abbrev pub behind_all : List ℕ → Position → Position
behind_all [] position = position
behind_all (byte ∷ rest) position = behind_all rest (behind byte position)

-- a line and a column never pass the count of the bytes before them by more than one
abbrev pub IsOfText : Position → Type 0
IsOfText position = (position.line ≤ position.offset + 1) × (position.column ≤ position.offset + 1)

-- the place of a position in the text with this number
abbrev pub place_at : ℕ → Position → Place
place_at number position = record { text = number; line = position.line; col = position.column }

-- what a text is cut into: its tokens, or the first fault
pub data Lexed : Type 0 where
  Tokens : List Token → Lexed
  BadByte : Place → Lexed
  OpenComment : Place → Lexed

-- one more token in front
abbrev pub with_token : Token → Lexed → Lexed
with_token token (Tokens tokens) = Tokens (token ∷ tokens)
with_token token (BadByte place) = BadByte place
with_token token (OpenComment place) = OpenComment place

-- the token that a lexeme is at a position
abbrev pub token_at : ℕ → Position → Lexeme → Token
token_at number position lexeme = record {
  kind = lexeme.kind;
  place = place_at number position;
  first = position.offset;
  past = position.offset + lexeme.length;
}

-- whether a gate list is open behind a token: `|[` opens one, and each token with a `]` closes it
abbrev pub list_open_behind : ℕ → Bool → Bool
list_open_behind kind open_list =
    if kind == GATES_OPEN then true
    else if ((kind == GATES_CLOSE) || (kind == RIGHT_BRACKET)) || (kind == CHOICE_SIGN) then false
    else open_list

-- what the rest of a text is cut into. The first `inside` bytes of the rest belong to the piece
-- that began before them; behind them the next piece begins
abbrev pub cut : (number inside : ℕ) → Bool → Position → List ℕ → Lexed
cut number inside open_list position [] = Tokens []
cut number (suc inside) open_list position (byte ∷ rest) = cut number inside open_list (behind byte position) rest
cut number zero open_list position (byte ∷ rest) =
    elim (piece_at open_list (byte ∷ rest)) [
      | piece.Blank ↦ cut number 0 open_list (behind byte position) rest
      | piece.Comment length ↦ cut number (length - 1) open_list (behind byte position) rest
      | piece.Token lexeme ↦ with_token (token_at number position lexeme)
          (cut number (lexeme.length - 1) (list_open_behind lexeme.kind open_list) (behind byte position) rest)
      | piece.Unclosed ↦ OpenComment (place_at number position)
      | piece.Nothing ↦ BadByte (place_at number position)
    ]

-- what the text with this number is cut into
abbrev pub tokens_of : ℕ → List ℕ → Lexed
tokens_of number text = cut number 0 false start text

-- the fault is the one that the text has; want of memory may come with any text
abbrev pub IsLexFaultOf : Lexed → LexFault → Type 0
IsLexFaultOf lexed (fault.BadByte place) = lexed ≡ BadByte place
IsLexFaultOf lexed (fault.OpenComment place) = lexed ≡ OpenComment place
IsLexFaultOf lexed fault.NoMemory = Unit {0}

-- the token has bytes, and they are bytes of the text
abbrev pub IsTokenOf : List ℕ → Token → Type 0
IsTokenOf text token = (token.first < token.past) × (token.past ≤ length text)
