-- A specification is accepted in one way at most, or refused for one fault, where each of its parts is decided.
use Rattle.std.specs.Prelude.{List}
use Rattle.lotos_base.specs.WrittenTerm.{ListedOperation}
use Rattle.lotos_base.specs.Equation.{Data, IsWellFormedData}
use Rattle.syntax_trees.specs.WrittenDefinition.{WrittenSpecification}
use Rattle.behaviour_semantics.specs.Behaviour.{Specification}
use Rattle.type_definitions.specs.DeclaredTypes.{DeclaredType}
use Rattle.refusal_lines.specs.HandedOn.{Files}
use Rattle.spec_acceptance.specs.PartLaws.{IsDecided, IsDetermined}
use Rattle.spec_acceptance.specs.Types.{HaveData, HaveFault}
use Rattle.spec_acceptance.specs.Scopes.{StandsFor, Breaks}
use Rattle.spec_acceptance.specs.Checks.{FunctionalitiesAgree, Disagree, Guarded, Cyclic}
use Rattle.spec_acceptance.specs.Book.{Opens, DoesNotOpen}
use Rattle.spec_acceptance.specs.Acceptance.{Asked, IsAccepted}

-- what a text stands for, or the first rule that it breaks, is one thing
abbrev pub ScopesAreDecided : Type 0
ScopesAreDecided = (data_ : Data) (tree : WrittenSpecification) → IsDecided (StandsFor data_ tree) (Breaks data_ tree)

-- the data of types, or their first fault, are one thing
abbrev pub TypesAreDecided : Type 0
TypesAreDecided = (types : List DeclaredType) → IsDecided (HaveData types) (HaveFault types)

-- whether functionalities agree and recursion is guarded, or the first thing that is wrong
abbrev pub ExitsAreDecided : Type 0
ExitsAreDecided = (data_ : Data) (tree : WrittenSpecification) (spec : Specification)
    → IsDecided (FunctionalitiesAgree data_ tree spec) (Disagree data_ tree spec)

abbrev pub RanksAreDecided : Type 0
RanksAreDecided = (data_ : Data) (tree : WrittenSpecification) (spec : Specification)
    → IsDecided (Guarded spec) (Cyclic data_ tree spec)

-- the data of types are well formed
abbrev pub DataAreWellFormed : Type 0
DataAreWellFormed = (types : List DeclaredType) (data_ : Data) → HaveData types data_ → IsWellFormedData data_

-- whether well-formed data open by an order, or the first thing that is wrong
abbrev pub BooksAreDecided : Type 0
BooksAreDecided = (items : List ListedOperation) (data_ : Data) → IsWellFormedData data_
    → IsDecided (Opens items data_) (DoesNotOpen items data_)

-- Where these are, all of the acceptance is: by what is got under each name there is one outcome at most where memory is there,
-- and the same files are got for it in the same order. Texts, libraries and scopes are decided by the laws of their crates.
abbrev pub AcceptanceIsDetermined : Type 0
AcceptanceIsDetermined = TypesAreDecided → DataAreWellFormed → ExitsAreDecided → RanksAreDecided → BooksAreDecided
    → (asked : Asked) (got : Files) → IsDetermined got (IsAccepted asked)
