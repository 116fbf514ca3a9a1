-- Laws of readings: they are well-sorted terms, and reading comes to one thing.
use Rattle.std.specs.Prelude.{◌≡◌, ℕ, List, Option}
use Rattle.lotos_base.specs.WrittenTerm.{WrittenTerm}
use Rattle.lotos_base.specs.Signature.{Signature}
use Rattle.lotos_base.specs.Equation.{Variable}
use Rattle.lotos_base.specs.Sorting.{HasSort}
use Rattle.lotos_base.specs.Term.{Term}
use Rattle.sort_terms.specs.Reading.{Reads, IsScopeOver}
use Rattle.sort_terms.specs.ReadingOutcome.{ReadingOutcome, SortedTerm, SortedPair, ReadingIs, PairReadingIs}

-- a reading is a well-sorted term of its sort
abbrev pub ReadingsAreWellSorted : Type 0
ReadingsAreWellSorted = (signature : Signature) (scope : List Variable) (w : WrittenTerm) (t : Term) (sort : ℕ)
    → IsScopeOver signature scope
    → Reads signature scope w t sort → HasSort signature t sort

-- reading a term comes to one outcome at most: so what a call answers, it answers exactly where that is the outcome
abbrev pub ReadingComesToOneThing : Type 0
ReadingComesToOneThing = (signature : Signature) (scope : List Variable) (w : WrittenTerm) (expected : Option ℕ)
    (one other : ReadingOutcome SortedTerm)
    → ReadingIs signature scope w expected one → ReadingIs signature scope w expected other → one ≡ other

-- and so does reading a pair
abbrev pub PairReadingComesToOneThing : Type 0
PairReadingComesToOneThing = (signature : Signature) (scope : List Variable) (left right : WrittenTerm)
    (one other : ReadingOutcome SortedPair)
    → PairReadingIs signature scope left right one → PairReadingIs signature scope left right other → one ≡ other
