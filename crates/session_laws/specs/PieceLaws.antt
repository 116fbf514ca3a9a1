-- The law of texts in pieces: their words are their tokens.
use Rattle.std.specs.Prelude.{◌≡◌, ℕ, List, [], ◌∷◌, codes, false}
use Rattle.lotos_lexer.specs.declared.tokens.Token.{Token}
use Rattle.lotos_lexer.specs.Tokens as lexed
use Rattle.lotos_lexer.specs.Tokens.{tokens_of}
use Rattle.lotos_lexer.specs.declared.kinds.TheConstants.{HIDE, IN, STOP}
use Rattle.session_laws.specs.PrintedWords.{Word, AreWords, a_word, name_word}
use Rattle.session_laws.specs.TextPieces.{TextPiece, word_piece, blank_piece, bytes_of_pieces, words_of_pieces, AreTokens}

-- the text is cut into tokens, which are the words
pub record IsCutInto (number : ℕ) (text : List ℕ) (words : List Word) : Type 0 where
  pub tokens : List Token
  pub cut_into : tokens_of number text ≡ lexed.Tokens tokens
  pub are_words : AreWords text tokens words

abbrev pub TextsInPiecesAreCut : Type 0
TextsInPiecesAreCut =
    (number : ℕ) (pieces : List TextPiece) → AreTokens false pieces → IsCutInto number (bytes_of_pieces pieces) (words_of_pieces pieces)

-- `hide g in stop` as an example
abbrev pub hidden_stop : List TextPiece
hidden_stop =
    word_piece (a_word HIDE (codes "hide")) ∷ blank_piece 32 ∷ word_piece (name_word (codes "g")) ∷ blank_piece 32
    ∷ word_piece (a_word IN (codes "in")) ∷ blank_piece 32 ∷ word_piece (a_word STOP (codes "stop")) ∷ []

pub record PieceExamples : Type 0 where
  pub text : bytes_of_pieces hidden_stop ≡ codes "hide g in stop"
  pub words : words_of_pieces hidden_stop
      ≡ a_word HIDE (codes "hide") ∷ name_word (codes "g") ∷ a_word IN (codes "in") ∷ a_word STOP (codes "stop") ∷ []
  pub tokens : AreTokens false hidden_stop
  -- without its blank, `hide` is no token
  pub joined : ¬ AreTokens false (word_piece (a_word HIDE (codes "hide")) ∷ word_piece (name_word (codes "g")) ∷ [])
