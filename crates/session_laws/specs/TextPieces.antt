-- A text as words with blanks between them, and when these words are its tokens.
use Rattle.std.specs.Prelude.{◌≡◌, ◌<◌, ℕ, Bool, true, List, [], ◌∷◌, ◌++◌, length}
use Rattle.lotos_lexer.specs.declared.pieces.Piece.TheVariants.{Token}
use Rattle.lotos_lexer.specs.Bytes.{is_blank}
use Rattle.lotos_lexer.specs.Lexemes.{lexeme_of}
use Rattle.lotos_lexer.specs.Pieces.{piece_at}
use Rattle.lotos_lexer.specs.Tokens.{list_open_behind}
use Rattle.session_laws.specs.PrintedWords.{Word}

-- a piece of a text: a word, or a blank
pub data TextPiece : Type 0 where
  word_piece : Word → TextPiece
  blank_piece : ℕ → TextPiece

-- the bytes of the pieces
abbrev pub bytes_of_pieces : List TextPiece → List ℕ
bytes_of_pieces [] = []
bytes_of_pieces (word_piece word ∷ pieces) = word.spelling ++ bytes_of_pieces pieces
bytes_of_pieces (blank_piece byte ∷ pieces) = byte ∷ bytes_of_pieces pieces

-- the words of the pieces
abbrev pub words_of_pieces : List TextPiece → List Word
words_of_pieces [] = []
words_of_pieces (word_piece word ∷ pieces) = word ∷ words_of_pieces pieces
words_of_pieces (blank_piece byte ∷ pieces) = words_of_pieces pieces

-- Each word is the token that begins where it stands: nothing behind it goes on with it. The flag says whether a list of gates is open,
-- as the lexer counts.
abbrev pub AreTokens : Bool → List TextPiece → Type 0
AreTokens open_list [] = Unit {0}
AreTokens open_list (word_piece word ∷ pieces) =
    (0 < length word.spelling)
    × (piece_at open_list (word.spelling ++ bytes_of_pieces pieces) ≡ Token (lexeme_of word.kind (length word.spelling)))
    × AreTokens (list_open_behind word.kind open_list) pieces
AreTokens open_list (blank_piece byte ∷ pieces) = (is_blank byte ≡ true) × AreTokens open_list pieces
