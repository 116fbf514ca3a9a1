-- An accepted specification with what its actualisations require.
use Rattle.std.specs.Prelude.{◌≡◌, ℕ, List, map}
use Rattle.lotos_base.specs.Name.{spelling}
use Rattle.sort_terms.specs.EquationView.{equation_of}
use Rattle.type_definitions.specs.DeclaredTypes.{DeclaredType}
use Rattle.type_definitions.specs.Requirements.{AreRequirements}
use Rattle.refusal_lines.specs.HandedOn.{ShelfState}
use Rattle.refusal_lines.specs.Refusal.{Refused}
use Rattle.spec_acceptance.specs.Acceptance.{Asked, Founded, Acceptance, IsAccepted}
use Rattle.spec_acceptance.specs.AcceptedView.{HoldsAccepted}
use Rattle.spec_acceptance.specs.Doing.{Did}
use Rattle.spec_acceptance.specs.Known.{FoundsWith}
use Rattle.spec_acceptance.specs.Part.{goes_on, Part}
use Rattle.spec_acceptance.specs.declared.accepted.Accepted.{Accepted}
use Rattle.spec_acceptance.specs.declared.books.WithBook.{WithBook}
use Rattle.spec_acceptance.specs.declared.required.Required.{Required}
use Rattle.spec_acceptance.specs.declared.required.WithRequirements.{WithRequirements}

-- the libraries that were read, and the requirements of the types
pub record HoldsRequired (types : List DeclaredType) (read : List (List ℕ)) (required : Required) : Type 0 where
  pub libraries : map spelling required.libraries.items ≡ read
  pub requirements : AreRequirements types (map equation_of required.equations.items)

-- the shelf gave what was asked of it, this is what came of the text up to the book, and those are the requirements of its types
pub record RequiresWith (before after : ShelfState) (part : Part Refused Founded) (made : WithBook) (required : Required) : Type 0 where
  pub founds : FoundsWith before after part made
  pub holds : HoldsRequired founds.founded.types founds.founded.libraries required

-- and this is what came of it with start values
pub record AcceptsRequiring (before after : ShelfState) (part : Part Refused Acceptance) (accepted : Accepted) (required : Required)
    : Type 0 where
  pub acceptance : Acceptance
  pub came : Did before after part (goes_on acceptance)
  pub holds : HoldsAccepted acceptance accepted
  pub requires_so : HoldsRequired acceptance.types acceptance.libraries required

-- It is what was accepted, with its libraries and requirements.
pub record HoldsWithRequirements (acceptance : Acceptance) (whole : WithRequirements) : Type 0 where
  pub holds : HoldsAccepted acceptance whole.accepted
  pub required : HoldsRequired acceptance.types acceptance.libraries whole.required

-- The shelf gave what was asked of it, and the answer is what came of it, with its requirements.
pub record KeepsRequirements (before after : ShelfState) (asked : Asked) (whole : WithRequirements) : Type 0 where
  pub acceptance : Acceptance
  pub came : Did before after (IsAccepted asked) (goes_on acceptance)
  pub holds : HoldsWithRequirements acceptance whole
