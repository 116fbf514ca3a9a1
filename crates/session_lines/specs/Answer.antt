-- What the questions of a session on its data come to.
use Rattle.std.specs.Prelude.{◌≡◌, ◌≢◌, ◌⊎◌, ◌↔◌, ℕ, Bool, true, false, IsTrue, List, [], ◌∷◌, ◌++◌, length, None, codes}
use Rattle.lotos_base.specs.WrittenTerm.{WrittenTerm}
use Rattle.lotos_base.specs.Equality.{Equal}
use Rattle.lotos_base.specs.Equation.{Data}
use Rattle.lotos_base.specs.Signature.{Signature}
use Rattle.lotos_base.specs.Term.{Term}
use Rattle.sort_terms.specs.ReadingOutcome as reading
use Rattle.sort_terms.specs.ReadingOutcome.{SortedTerm, SortedPair, ReadingIs, PairReadingIs, answered}
use Rattle.printed_texts.specs.TermText.{term_text}
use Rattle.session_lines.specs.Refusal.{QuestionRefusal, bad_command, bad_term, question_refusal_text, term_number, AreTermsOfLine, AreUnread}

-- what a question of a line comes to: an answer, or a refusal
pub data QuestionOutcome (A : Type 0) : Type 0 where
  gives : A → QuestionOutcome A
  refuses : QuestionRefusal → QuestionOutcome A

-- The normal form of the one term in the text: its one reading, which has no variables, in canonical form. The text is refused
-- for its tokens, grammar or depth, then for another number of terms, then for the readings of its term.
abbrev pub IsNormalAnswer : Signature → (Term → Term) → List ℕ → QuestionOutcome Term → Type 0
IsNormalAnswer signature canon text (gives form) =
    (term : WrittenTerm) × (read : SortedTerm) × AreTermsOfLine text (term ∷ [])
    × ReadingIs signature [] term None (answered read) × (form ≡ canon read.term)
IsNormalAnswer signature canon text (refuses bad_command) = (terms : List WrittenTerm) × AreTermsOfLine text terms × (length terms ≢ 1)
IsNormalAnswer signature canon text (refuses (bad_term number)) =
    AreUnread text number
    ⊎ ((term : WrittenTerm) × (refusal : reading.ReadingRefusal) × AreTermsOfLine text (term ∷ [])
    × ReadingIs signature [] term None (reading.refused refusal) × (number ≡ term_number refusal))

-- Whether the equations derive the equality of the two terms in the text, which are read at one sort. The text is refused for
-- its tokens, grammar or depth, then for another number of terms, then for the readings of the two.
abbrev pub IsComparison : Data → List ℕ → QuestionOutcome Bool → Type 0
IsComparison data_ text (gives equal) =
    (left right : WrittenTerm) × (read : SortedPair) × AreTermsOfLine text (left ∷ right ∷ [])
    × PairReadingIs data_.signature [] left right (answered read)
    × (IsTrue equal ↔ Equal data_ read.left read.right)
IsComparison data_ text (refuses bad_command) = (terms : List WrittenTerm) × AreTermsOfLine text terms × (length terms ≢ 2)
IsComparison data_ text (refuses (bad_term number)) =
    AreUnread text number
    ⊎ ((left right : WrittenTerm) × (refusal : reading.ReadingRefusal) × AreTermsOfLine text (left ∷ right ∷ [])
    × PairReadingIs data_.signature [] left right (reading.refused refusal) × (number ≡ term_number refusal))

-- what is printed
abbrev pub normal_text : Signature → QuestionOutcome Term → List ℕ
normal_text signature (gives form) = term_text signature [] form ++ codes "\n"
normal_text signature (refuses refusal) = question_refusal_text refusal

abbrev pub verdict_text : Bool → List ℕ
verdict_text true = codes "equal\n"
verdict_text false = codes "different\n"

abbrev pub comparison_text : QuestionOutcome Bool → List ℕ
comparison_text (gives equal) = verdict_text equal
comparison_text (refuses refusal) = question_refusal_text refusal
