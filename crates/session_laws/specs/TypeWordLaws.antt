-- The law of the words of the type of data: they are the items that these data are written as.
use Rattle.std.specs.Prelude.{ℕ, List}
use Rattle.lotos_base.specs.Equation.{Data}
use Rattle.lotos_lexer.specs.declared.tokens.Token.{Token}
use Rattle.lotos_rows.specs.Starts.{AreItems}
use Rattle.session_laws.specs.PrintedWords.{AreWords}
use Rattle.session_laws.specs.WordLaws.{IsFittingSentence}
use Rattle.session_laws.specs.TypeWords.{type_words}
use Rattle.session_laws.specs.WrittenData.{AreDataWritten}
use Rattle.session_laws.specs.DataLaws.{AreDataOfText}

-- Tokens of a text that are the words of the type of data are items by the grammar, which these data are written as.
abbrev pub TypeWordsAreItems : Type 0
TypeWordsAreItems = (text : List ℕ) (data_ : Data) (tokens : List Token)
    → AreDataOfText data_
    → AreWords text tokens (type_words data_)
    → IsFittingSentence (AreItems text) (AreDataWritten data_) tokens
