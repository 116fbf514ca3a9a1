-- The law of the texts of terms: their tokens are the words of these terms.
use Rattle.std.specs.Prelude.{ℕ, List}
use Rattle.lotos_base.specs.Signature.{Signature, IsWellFormedSignature}
use Rattle.lotos_base.specs.Equation.{Variable}
use Rattle.lotos_base.specs.Term.{Term, Terms, variable, node, no_terms, term_then}
use Rattle.printed_texts.specs.TermText.{variable_text, term_text}
use Rattle.session_laws.specs.TextNames.{IsWordSpelling, HasTextNames}
use Rattle.session_laws.specs.PrintedWords.{term_words}
use Rattle.session_laws.specs.PieceLaws.{IsCutInto}

abbrev mutual
  -- each variable of the term is printed by a name of the form that texts have
  pub HasNamedVariables : List Variable → Term → Type 0
  HasNamedVariables names (variable n s) = IsWordSpelling (variable_text names n)
  HasNamedVariables names (node f ts) = HaveNamedVariables names ts

  pub HaveNamedVariables : List Variable → Terms → Type 0
  HaveNamedVariables names no_terms = Unit {0}
  HaveNamedVariables names (term_then t ts) = HasNamedVariables names t × HaveNamedVariables names ts

-- The text of a term is cut into the words of the term, where the names have the form that texts have.
abbrev pub TermTextsAreWords : Type 0
TermTextsAreWords = (number : ℕ) (signature : Signature) (names : List Variable) (t : Term)
    → IsWellFormedSignature signature
    → HasTextNames signature
    → HasNamedVariables names t
    → IsCutInto number (term_text signature names t) (term_words signature names t)
