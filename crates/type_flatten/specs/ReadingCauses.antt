-- The causes for which a written term is refused: a name that stands for nothing, an `of` with the name of no sort, no reading, or
-- more than one.
use Rattle.std.specs.Prelude.{◌≡◌, ℕ, List, [], ◌∷◌, ◌++◌, map, Option, Some, slice_get}
use Rattle.lotos_base.specs.Equation.{Place, Variable}
use Rattle.lotos_base.specs.Names.{AreOneName}
use Rattle.lotos_base.specs.Signature.{Signature, Operation, Form, prefix_form, infix_form}
use Rattle.lotos_base.specs.WrittenTerm.{PlacedName, WrittenHead, WrittenTerm, WrittenTerms, written, no_written, written_then, written_head}
use Rattle.sort_terms.specs.Counting.{HasNone, HasTwo}
use Rattle.sort_terms.specs.Reading.{NoneNamed}
use Rattle.sort_terms.specs.ReadingOutcome.{ReadingRefusal, unknown_name, unknown_sort, no_reading, two_readings, IsReading, IsPairReading}
use Rattle.type_flatten.specs.FirstCause.{OrElse, FirstAlong, stays}
use Rattle.type_flatten.specs.FaultCauses.{NamesNoSort}

-- the refusal is there
abbrev pub RefusalCause : Type 1
RefusalCause = ReadingRefusal → Type 0

-- ---- The names in a term

-- the name at a node, or that of a sort behind `of`
pub data WrittenPart : Type 0 where
  name_at : WrittenHead → WrittenPart
  sort_at : PlacedName → WrittenPart

abbrev pub all_parts : List (List WrittenPart) → List WrittenPart
all_parts [] = []
all_parts (parts ∷ more) = parts ++ all_parts more

-- an infix operation stands behind its first argument, any other before all of them
abbrev pub parts_around : Form → WrittenPart → List (List WrittenPart) → List WrittenPart
parts_around prefix_form here arguments = here ∷ all_parts arguments
parts_around infix_form here [] = here ∷ []
parts_around infix_form here (first ∷ others) = first ++ here ∷ all_parts others

-- the names of a term in text order: each `of` stands behind what it is put on
abbrev mutual
  pub parts_of : WrittenTerm → List WrittenPart
  parts_of (written head arguments) =
      parts_around head.form (name_at head) (parts_of_each arguments) ++ map (λ (asked : PlacedName). sort_at asked) head.sorts

  pub parts_of_each : WrittenTerms → List (List WrittenPart)
  parts_of_each no_written = []
  parts_of_each (written_then w ws) = parts_of w ∷ parts_of_each ws

-- ---- What stands for nothing

-- no variable in scope has the name, where one may stand there, and no operation has it in the form of the node
pub record StandsForNothing (signature : Signature) (scope : List Variable) (head : WrittenHead) : Type 0 where
  pub no_variable : head.form ≡ prefix_form → NoneNamed scope head.name
  pub no_operation :
      (i : ℕ) (operation : Operation) →
      slice_get signature.operations i ≡ Some operation →
      AreOneName operation.name head.name →
      operation.form ≡ head.form →
      ⊥

abbrev pub PartIsUnknown : Signature → List Variable → WrittenPart → RefusalCause
PartIsUnknown signature scope (name_at head) refusal =
    (refusal ≡ unknown_name head.place) × StandsForNothing signature scope head
PartIsUnknown signature scope (sort_at asked) refusal = (refusal ≡ unknown_sort asked.place) × NamesNoSort signature asked.name

-- ---- How many readings there are

abbrev pub HasNoReading : {A : Type 0} → Place → (A → Type 0) → RefusalCause
HasNoReading place IsAnswer refusal = (refusal ≡ no_reading place) × HasNone IsAnswer

abbrev pub HasTwoReadings : {A : Type 0} → Place → (A → Type 0) → RefusalCause
HasTwoReadings place IsAnswer refusal = (refusal ≡ two_readings place) × HasTwo IsAnswer

-- the first name that stands for nothing, or else, at the place of the whole, that there is no reading, or that there are two
abbrev pub QuestionBrings : {A : Type 0} → Signature → List Variable → List WrittenPart → Place → (A → Type 0) → RefusalCause
QuestionBrings signature scope parts place IsAnswer =
    OrElse (FirstAlong (PartIsUnknown signature) stays scope parts)
    (OrElse (HasNoReading place IsAnswer) (HasTwoReadings place IsAnswer))

abbrev pub TermBrings : Signature → List Variable → WrittenTerm → Option ℕ → RefusalCause
TermBrings signature scope w expected =
    QuestionBrings signature scope (parts_of w) (written_head w).place (IsReading signature scope w expected)

-- two terms of one sort
abbrev pub PairBrings : Signature → List Variable → WrittenTerm → WrittenTerm → RefusalCause
PairBrings signature scope left right =
    QuestionBrings signature scope (parts_of left ++ parts_of right) (written_head left).place
    (IsPairReading signature scope left right)
