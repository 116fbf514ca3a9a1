-- The order of faults: how a specification is accepted, or at which fault it is refused, and which files are got for it. The
-- specification is got and read; its libraries are read, in the order of mention; the types are flattened; the scopes are
-- resolved; functionalities agree; recursion is guarded; the order file is got and read; its items are fine, the equations are
-- oriented and the critical pairs join; and the start values are read.
use Rattle.type_definitions.specs.DeclaredTypes.{DeclaredType, types_of}
use Rattle.std.specs.Prelude.{ℕ, List, Option}
use Rattle.lotos_base.specs.WrittenTerm.{ListedOperation}
use Rattle.lotos_base.specs.Equation.{Data}
use Rattle.lotos_base.specs.Term.{Term}
use Rattle.syntax_trees.specs.WrittenDefinition.{WrittenSpecification}
use Rattle.behaviour_semantics.specs.Behaviour.{Specification, sorts_of}
use Rattle.refusal_lines.specs.HandedOn.{Gathered}
use Rattle.refusal_lines.specs.Refusal.{Refused}
use Rattle.refusal_lines.specs.StartValues.{Start, AreStartValues, IsStartFault}
use Rattle.spec_acceptance.specs.Ending.{with_spec}
use Rattle.spec_acceptance.specs.Part.{Part, Then, Has, Looks}
use Rattle.spec_acceptance.specs.Texts.{GetsFile, ReadsSpecification, Gathers, Orders}
use Rattle.spec_acceptance.specs.Types.{Flattens}
use Rattle.spec_acceptance.specs.Scopes.{Resolves}
use Rattle.spec_acceptance.specs.Checks.{ComesToAgreement, IsGuardedIn}
use Rattle.spec_acceptance.specs.Book.{OpensBook}

-- the words for the files, and those behind `with`
pub record Asked : Type 0 where
  pub spec : List ℕ
  pub order : Option (List ℕ)
  pub values : List (List ℕ)

-- ---- Up to the book

-- what is known then: the libraries that were read, the types with those of the libraries, the data, the specification, and the
-- items of the order
pub record Founded : Type 0 where
  pub libraries : List (List ℕ)
  pub types : List DeclaredType
  pub data_ : Data
  pub spec : Specification
  pub items : List ListedOperation

abbrev pub founded_with : Gathered → Data → Specification → List ListedOperation → Founded
founded_with gathered data_ spec items = record {
  libraries = gathered.read;
  types = types_of gathered.types;
  data_ = data_;
  spec = spec;
  items = items;
}

-- what comes behind the text of the specification, in this order
abbrev pub FoundedBy : Option (List ℕ) → WrittenSpecification → Part Refused Founded
FoundedBy order tree =
    Then (Gathers tree) (λ gathered.
    Then (Flattens gathered) (λ data_.
    Then (Resolves gathered data_ tree) (λ spec.
    Then (ComesToAgreement gathered data_ tree spec) (λ _.
    Then (IsGuardedIn gathered data_ tree spec) (λ _.
    Then (Orders (with_spec gathered.read data_ spec) order) (λ items.
    Then (OpensBook gathered data_ spec items) (λ _.
    Has (founded_with gathered data_ spec items))))))))

-- with this text
abbrev pub Founds : List ℕ → Option (List ℕ) → Part Refused Founded
Founds text order = Then (ReadsSpecification text) (λ tree. FoundedBy order tree)

-- ---- With start values

-- the words behind `with` are the start values: ground terms of the sorts of the parameters, as they are read
abbrev pub start_of : Data → Specification → List (List ℕ) → Start
start_of data_ spec words = record { signature = data_.signature; sorts = sorts_of spec.parameters; words = words }

abbrev pub StartsWithValues : Founded → List (List ℕ) → Part Refused (List Term)
StartsWithValues founded words =
    Looks (AreStartValues (start_of founded.data_ founded.spec words)) (IsStartFault (start_of founded.data_ founded.spec words))
    (with_spec founded.libraries founded.data_ founded.spec)

-- what is accepted: the libraries that were read, the types, the data, the specification, the items of the order, and the start
-- values
pub record Acceptance : Type 0 where
  pub libraries : List (List ℕ)
  pub types : List DeclaredType
  pub data_ : Data
  pub spec : Specification
  pub items : List ListedOperation
  pub values : List Term

abbrev pub accepted_with : Founded → List Term → Acceptance
accepted_with founded values = record {
  libraries = founded.libraries;
  types = founded.types;
  data_ = founded.data_;
  spec = founded.spec;
  items = founded.items;
  values = values;
}

-- ---- All of it

-- a specification whose text is given
abbrev pub AcceptsText : List ℕ → Option (List ℕ) → List (List ℕ) → Part Refused Acceptance
AcceptsText text order words =
    Then (Founds text order) (λ founded.
    Then (StartsWithValues founded words) (λ values.
    Has (accepted_with founded values)))

-- one whose text is got under its name, up to the book: whatever start values its parameters get
abbrev pub IsFounded : (spec : List ℕ) (order : Option (List ℕ)) → Part Refused Founded
IsFounded spec order = Then (GetsFile spec) (λ text. Founds text order)

-- and with start values
abbrev pub IsAccepted : Asked → Part Refused Acceptance
IsAccepted asked = Then (GetsFile asked.spec) (λ text. AcceptsText text asked.order asked.values)
