-- Why a line of a session is refused, and the line that is printed for it.
use Rattle.std.specs.Prelude.{◌≡◌, ◌≢◌, ℕ, List, ◌++◌, codes, decimal}
use Rattle.lotos_base.specs.WrittenTerm.{WrittenTerm}
use Rattle.lotos_grammar.specs.HandedOn.{IsTermsReading, IsTermsFault, ReadFault, TooLong, BadByte, OpenComment, Syntax, TooDeep, NoMemory}
use Rattle.sort_terms.specs.ReadingOutcome as reading

-- it has no form, or not the number of terms that its word wants; or its terms are refused, with the number of their fault
pub data QuestionRefusal : Type 0 where
  bad_command : QuestionRefusal
  bad_term : (number : ℕ) → QuestionRefusal

abbrev pub question_refusal_text : QuestionRefusal → List ℕ
question_refusal_text bad_command = codes "refused 801 BadCommand\n"
question_refusal_text (bad_term number) = codes "refused 804 BadTerm " ++ decimal number ++ codes "\n"

-- the number of a fault of a text. Want of memory, which refuses no line, has none
abbrev pub fault_number : ReadFault → ℕ
fault_number (BadByte place) = 101
fault_number (OpenComment place) = 102
fault_number TooLong = 103
fault_number (Syntax place) = 104
fault_number (TooDeep place) = 105
fault_number NoMemory = 0

-- the number of the refusal of a term
abbrev pub term_number : reading.ReadingRefusal → ℕ
term_number (reading.unknown_sort place) = 205
term_number (reading.unknown_name place) = 211
term_number (reading.no_reading place) = 212
term_number (reading.two_readings place) = 213

-- the text of a line is read as these terms. Places in it are never printed, and its number is 0
abbrev pub AreTermsOfLine : List ℕ → List WrittenTerm → Type 0
AreTermsOfLine text terms = IsTermsReading 0 text terms

-- or it has a fault of this number, of its tokens, of the grammar of terms, or of depth
abbrev pub AreUnread : List ℕ → ℕ → Type 0
AreUnread text number = (fault : ReadFault) × IsTermsFault 0 text fault × (fault ≢ NoMemory) × (number ≡ fault_number fault)
