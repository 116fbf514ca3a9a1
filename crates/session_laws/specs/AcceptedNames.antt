-- The names of an accepted specification have the form of names: each is one whole token, and infix operations have two arguments.
use Rattle.std.specs.Prelude.{List}
use Rattle.behaviour_semantics.specs.WellFormed.{Every}
use Rattle.session_laws.specs.TextNames.{IsWordSpelling, HasTextNames}
use Rattle.lotos_top.specs.HandedOn.{Asked, Acceptance, IsAccepted, goes_on, GotFile}

-- those of its sorts and operations, and those of its gates
pub record HasAcceptedNames (acceptance : Acceptance) : Type 0 where
  pub signature : HasTextNames acceptance.data_.signature
  pub gates : Every IsWordSpelling acceptance.spec.gate_names

abbrev pub AcceptedNamesAreOfText : Type 0
AcceptedNamesAreOfText = (asked : Asked) (files : List GotFile) (acceptance : Acceptance)
    → IsAccepted asked files (goes_on acceptance)
    → HasAcceptedNames acceptance
