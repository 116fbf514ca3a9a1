-- The law of the text of the type of data: its tokens are the words of the type.
use Rattle.std.specs.Prelude.{ℕ}
use Rattle.lotos_base.specs.Equation.{Data, IsWellFormedData}
use Rattle.session_laws.specs.TextNames.{HasTextNames}
use Rattle.flat_text.specs.DataText.{data_text}
use Rattle.session_laws.specs.CutTexts.{AreWhole}
use Rattle.session_laws.specs.PieceLaws.{IsCutInto}
use Rattle.session_laws.specs.TypeWords.{type_words}

-- The text of data is these words, whatever stands behind it, where the names have the form that texts have. So it is cut into them
-- where it stands alone.
pub record TypeTextsAreWords : Type 0 where
  pub whole : (data_ : Data) → IsWellFormedData data_ → HasTextNames data_.signature → AreWhole (data_text data_) (type_words data_)
  pub alone : (number : ℕ) (data_ : Data) → IsWellFormedData data_ → HasTextNames data_.signature
      → IsCutInto number (data_text data_) (type_words data_)
