-- Bytes that are words with blanks between them.
use Rattle.std.specs.Prelude.{◌≡◌, ℕ, Bool, false, List, ◌++◌}
use Rattle.session_laws.specs.PrintedWords.{Word}
use Rattle.session_laws.specs.TextPieces.{TextPiece, bytes_of_pieces, words_of_pieces, AreTokens}

-- The bytes can be parted into words and blanks such that each word is the token that begins where it stands. The flag says whether a
-- list of gates is open there.
pub record AreCut (open_list : Bool) (bytes : List ℕ) (words : List Word) : Type 0 where
  pub pieces : List TextPiece
  pub bytes_are : bytes_of_pieces pieces ≡ bytes
  pub words_are : words_of_pieces pieces ≡ words
  pub tokens : AreTokens open_list pieces

-- The bytes are these words whatever stands behind them, as those of whole lines are.
abbrev pub AreWhole : List ℕ → List Word → Type 0
AreWhole bytes words = (rest : List ℕ) (more : List Word) → AreCut false rest more → AreCut false (bytes ++ rest) (words ++ more)
