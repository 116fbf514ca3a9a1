-- The items of the order name operations, each once, and statuses; the equations are oriented by the precedence that the
-- items give; the rules are confluent.
use Rattle.std.specs.Prelude.{◌≡◌, ℕ, List}
use Rattle.lotos_base.specs.WrittenTerm.{ListedOperation}
use Rattle.lotos_base.specs.Equation.{Place, Data}
use Rattle.lotos_base.specs.Term.{Term}
use Rattle.behaviour_semantics.specs.Behaviour.{Specification}
use Rattle.rewriting_theory.specs.Precedence.{Precedence}
use Rattle.rewriting_theory.specs.Orientation.{NumberedRule, IsOrientation, IsFirstUnorientable}
use Rattle.path_order.specs.Listing.{IsUnknown, IsTwice, IsBadAlone, IsFirstWrong, listed_name, listed_status}
use Rattle.path_order.specs.OrderedBy.{IsPrecedenceBy}
use Rattle.refusal_lines.specs.HandedOn.{AreUnjoinedBy, IsOpenedBy, Gathered}
use Rattle.refusal_lines.specs.Refusal.{Refusal, Refused, unknown_operation, twice_listed, bad_status, unorientable, unjoined}
use Rattle.spec_acceptance.specs.Ending.{with_spec}
use Rattle.spec_acceptance.specs.Part.{Part, Looks}

-- the items give these data a precedence and confluent rules
abbrev pub Opens : List ListedOperation → Data → List ListedOperation → Type 0
Opens items data_ same =
    (same ≡ items) × ((precedence : Precedence) × (rules : List NumberedRule) × IsOpenedBy items data_ precedence rules)

-- what is wrong: an item names no operation, or one that an earlier item names, or has a status that is none; an equation
-- cannot be oriented; or a critical pair is not joined
pub data OpeningFault : Type 0 where
  names_none names_twice names_no_status : (place : Place) (name : List ℕ) → OpeningFault
  not_oriented : (equation : ℕ) → OpeningFault
  not_joined : (first second : ℕ) (peak left right : Term) → OpeningFault

-- the first thing that is wrong: an item; or an equation by the precedence of the items; or a critical pair of the rules
abbrev pub DoesNotOpen : List ListedOperation → Data → OpeningFault → Type 0
DoesNotOpen items data_ (names_none place name) =
    IsFirstWrong data_.signature items (λ k item. IsUnknown data_.signature item) listed_name place name
DoesNotOpen items data_ (names_twice place name) =
    IsFirstWrong data_.signature items (λ k item. IsTwice data_.signature items k item) listed_name place name
DoesNotOpen items data_ (names_no_status place name) =
    IsFirstWrong data_.signature items (λ k item. IsBadAlone data_.signature items k item) listed_status place name
DoesNotOpen items data_ (not_oriented equation) =
    (precedence : Precedence) × IsPrecedenceBy data_.signature items precedence
    × IsFirstUnorientable precedence data_.equations equation
DoesNotOpen items data_ (not_joined first second peak left right) =
    (precedence : Precedence) × (rules : List NumberedRule) × IsPrecedenceBy data_.signature items precedence
    × IsOrientation precedence data_ rules × AreUnjoinedBy data_.signature rules first second peak left right

abbrev pub opening_refusal : OpeningFault → Refusal
opening_refusal (names_none place name) = unknown_operation place name
opening_refusal (names_twice place name) = twice_listed place name
opening_refusal (names_no_status place name) = bad_status place name
opening_refusal (not_oriented equation) = unorientable equation
opening_refusal (not_joined first second peak left right) = unjoined first second peak left right

abbrev pub opening_told : List (List ℕ) → Data → Specification → OpeningFault → Refused
opening_told read data_ spec fault = with_spec read data_ spec (opening_refusal fault)

abbrev pub OpensBook : Gathered → Data → Specification → List ListedOperation → Part Refused (List ListedOperation)
OpensBook gathered data_ spec items =
    Looks (Opens items data_) (DoesNotOpen items data_) (opening_told gathered.read data_ spec)
