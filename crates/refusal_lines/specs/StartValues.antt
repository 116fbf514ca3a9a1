-- Start values: the terms of the words behind `with`, one for each parameter of the specification, and the first thing that is
-- wrong with them. The words are read one after another, then the terms are counted, and then each is read at its sort.
use Rattle.std.specs.Prelude.{◌≡◌, ◌≢◌, ◌⊎◌, ℕ, ◌+◌, List, [], ◌∷◌, ◌++◌, map, length, Option, None, Some}
use Rattle.lotos_base.specs.WrittenTerm.{WrittenTerm}
use Rattle.lotos_base.specs.WrittenView.{text_place_of}
use Rattle.lotos_base.specs.Equation.{Place}
use Rattle.lotos_base.specs.Signature.{Signature}
use Rattle.lotos_base.specs.Term.{Term}
use Rattle.sort_terms.specs.ReadingOutcome as reading
use Rattle.sort_terms.specs.ReadingOutcome.{ReadingIs, answered}
use Rattle.lotos_grammar.specs.HandedOn.{IsTermsReading, IsTermsFault, ReadFault}
use Rattle.lotos_grammar.specs.HandedOn.read_faults as read
use Rattle.refusal_lines.specs.Refusal.{Refusal, too_long, bad_byte, open_comment, wrong_syntax, too_deep, start_values, start_term}
use Rattle.refusal_lines.specs.declared.start_words.TheConstants.{WORDS_TEXT}

-- a term among the words, with the number of its word
pub record WordTerm : Type 0 where
  pub word : ℕ
  pub term : WrittenTerm

-- a place in a word: the line is the number of the word
abbrev pub in_word : ℕ → Place → Place
in_word word place = record { text = place.text; line = word; column = place.column }

abbrev pub of_word : ℕ → WrittenTerm → WordTerm
of_word word term = record { word = word; term = term }

-- the words, the first of which has this number, have these terms
abbrev pub HaveTerms : ℕ → List (List ℕ) → List WordTerm → Type 0
HaveTerms number [] terms = terms ≡ []
HaveTerms number (word ∷ words) terms =
    (own : List WrittenTerm) × (others : List WordTerm) × IsTermsReading WORDS_TEXT word own × HaveTerms (number + 1) words others
    × (terms ≡ map (of_word number) own ++ others)

-- a fault of the word with the number
abbrev pub told_of_word : ℕ → ReadFault → Option Refusal
told_of_word number read.TooLong = Some (too_long WORDS_TEXT)
told_of_word number (read.BadByte place) = Some (bad_byte (in_word number (text_place_of place)))
told_of_word number (read.OpenComment place) = Some (open_comment (in_word number (text_place_of place)))
told_of_word number (read.Syntax place) = Some (wrong_syntax (in_word number (text_place_of place)))
told_of_word number (read.TooDeep place) = Some (too_deep (in_word number (text_place_of place)))
told_of_word number read.NoMemory = None

abbrev pub IsWordFault : ℕ → List ℕ → Refusal → Type 0
IsWordFault number word refusal =
    (fault : ReadFault) × IsTermsFault WORDS_TEXT word fault × (told_of_word number fault ≡ Some refusal)

-- the first of the words that has a fault has this one
abbrev pub HaveWordFault : ℕ → List (List ℕ) → Refusal → Type 0
HaveWordFault number [] refusal = ⊥
HaveWordFault number (word ∷ words) refusal =
    IsWordFault number word refusal
    ⊎ ((own : List WrittenTerm) × IsTermsReading WORDS_TEXT word own × HaveWordFault (number + 1) words refusal)

-- a term has one reading at the sort, in which there are no variables: this value
abbrev pub HasStartValue : Signature → ℕ → WordTerm → Term → Type 0
HasStartValue signature sort given value =
    ReadingIs signature [] given.term (Some sort) (answered (record { term = value; sort = sort }))

-- the terms have these values at the sorts, one by one
abbrev pub HaveValues : Signature → List ℕ → List WordTerm → List Term → Type 0
HaveValues signature [] [] [] = Unit {0}
HaveValues signature (sort ∷ sorts) (given ∷ others) (value ∷ values) =
    HasStartValue signature sort given value × HaveValues signature sorts others values
HaveValues signature _ _ _ = ⊥

-- a refusal of a term of the word with the number
abbrev pub told_of_term : ℕ → reading.ReadingRefusal → Refusal
told_of_term word (reading.unknown_name place) = start_term (reading.unknown_name (in_word word place))
told_of_term word (reading.unknown_sort place) = start_term (reading.unknown_sort (in_word word place))
told_of_term word (reading.no_reading place) = start_term (reading.no_reading (in_word word place))
told_of_term word (reading.two_readings place) = start_term (reading.two_readings (in_word word place))

abbrev pub IsTermFault : Signature → ℕ → WordTerm → Refusal → Type 0
IsTermFault signature sort given refusal =
    (found : reading.ReadingRefusal) × ReadingIs signature [] given.term (Some sort) (reading.refused found)
    × (refusal ≡ told_of_term given.word found)

-- the first of the terms that has no value at its sort is refused for this
abbrev pub HaveTermFault : Signature → List ℕ → List WordTerm → Refusal → Type 0
HaveTermFault signature (sort ∷ sorts) (given ∷ others) refusal =
    IsTermFault signature sort given refusal
    ⊎ ((value : Term) × HasStartValue signature sort given value × HaveTermFault signature sorts others refusal)
HaveTermFault signature _ _ _ = ⊥

-- what is given: the sorts of the parameters over a signature, and the words
pub record Start : Type 0 where
  pub signature : Signature
  pub sorts : List ℕ
  pub words : List (List ℕ)

-- the words are these values
pub record AreStartValues (start : Start) (values : List Term) : Type 0 where
  pub terms : List WordTerm
  pub read : HaveTerms 1 start.words terms
  pub valued : HaveValues start.signature start.sorts terms values

-- this is the first thing that is wrong with them
pub data IsStartFault (start : Start) (refusal : Refusal) : Type 0 where
  misread : HaveWordFault 1 start.words refusal → IsStartFault start refusal
  miscounted :
      (terms : List WordTerm) → HaveTerms 1 start.words terms → length start.sorts ≢ length terms
      → refusal ≡ start_values (length start.sorts) (length terms) → IsStartFault start refusal
  misfitting :
      (terms : List WordTerm) → HaveTerms 1 start.words terms → length start.sorts ≡ length terms
      → HaveTermFault start.signature start.sorts terms refusal → IsStartFault start refusal
