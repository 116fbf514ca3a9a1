-- What disagreements are, in the words of the rule.
use Rattle.std.specs.Prelude.{◌≡◌, ◌↔◌, ℕ, List, [], ◌∷◌, Some}
use Rattle.lotos_base.specs.declared.places.Place.{Place}
use Rattle.process_checks.specs.Functionality.{Functionality, Disagreement, at_sign, at_definition}

-- At a sign nothing is wrong exactly where two lists there are the same, and what is wrong names the place and the two
-- functionalities.
pub record SignsAgree : Type 0 where
  pub agreed :
      (place : Place) (left right : Functionality) →
      (at_sign place left right ≡ []) ↔ ((ss ts : List ℕ) → left ≡ Some ss → right ≡ Some ts → ss ≡ ts)
  pub named :
      (place : Place) (left right : Functionality) (d : Disagreement) (rest : List Disagreement) →
      at_sign place left right ≡ d ∷ rest →
      d ≡ record { place = place; left = left; right = right }

-- At a definition nothing is wrong exactly where a body that has a list has the one that is declared.
abbrev pub DefinitionsAgree : Type 0
DefinitionsAgree =
    (place : Place) (body declared : Functionality) →
    (at_definition place body declared ≡ []) ↔ ((ss : List ℕ) → body ≡ Some ss → declared ≡ Some ss)
