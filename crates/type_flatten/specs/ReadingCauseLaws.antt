-- A written term is refused exactly where a cause stands, and the first cause counts; without one it has its one reading.
use Rattle.std.specs.Prelude.{◌↔◌, ℕ, List, Option}
use Rattle.lotos_base.specs.Equation.{Variable}
use Rattle.lotos_base.specs.Signature.{Signature}
use Rattle.lotos_base.specs.WrittenTerm.{WrittenTerm}
use Rattle.sort_terms.specs.ReadingOutcome.{ReadingRefusal, answered, refused, SortedTerm, SortedPair, ReadingIs, PairReadingIs}
use Rattle.type_flatten.specs.FirstCause.{IsNowhere}
use Rattle.type_flatten.specs.ReadingCauses.{TermBrings, PairBrings}

pub record ReadingsAreRefusedWhereCaused : Type 0 where
  pub terms :
      (signature : Signature) (scope : List Variable) (w : WrittenTerm) (expected : Option ℕ) (refusal : ReadingRefusal) →
      ReadingIs signature scope w expected (refused refusal) ↔ TermBrings signature scope w expected refusal
  pub pairs :
      (signature : Signature) (scope : List Variable) (left right : WrittenTerm) (refusal : ReadingRefusal) →
      PairReadingIs signature scope left right (refused refusal) ↔ PairBrings signature scope left right refusal
  -- so reading always comes to something
  pub read :
      (signature : Signature) (scope : List Variable) (w : WrittenTerm) (expected : Option ℕ) →
      IsNowhere (TermBrings signature scope w expected)
      ↔ ((reading : SortedTerm) × ReadingIs signature scope w expected (answered reading))
  pub both_read :
      (signature : Signature) (scope : List Variable) (left right : WrittenTerm) →
      IsNowhere (PairBrings signature scope left right)
      ↔ ((reading : SortedPair) × PairReadingIs signature scope left right (answered reading))
