-- What the words behind `with` come to is one thing, and start values are ground terms of the sorts of the parameters.
use Rattle.std.specs.Prelude.{◌≡◌, List}
use Rattle.lotos_base.specs.Term.{Term}
use Rattle.behaviour_semantics.specs.Rule.{AreValues}
use Rattle.sort_terms.specs.ReadingLaws.{ReadingsAreWellSorted}
use Rattle.refusal_lines.specs.Refusal.{Refusal}
use Rattle.refusal_lines.specs.StartValues.{Start, AreStartValues, IsStartFault}

-- the words are one list of values at most, or have one fault first, and not both
pub record StartsHaveOneOutcome : Type 0 where
  pub one_list : (start : Start) (some other : List Term) → AreStartValues start some → AreStartValues start other → some ≡ other
  pub not_both : (start : Start) (values : List Term) (refusal : Refusal) → AreStartValues start values
      → IsStartFault start refusal → ⊥
  pub one_fault : (start : Start) (some other : Refusal) → IsStartFault start some → IsStartFault start other → some ≡ other

abbrev pub StartValuesAreGround : Type 0
StartValuesAreGround = (start : Start) (values : List Term) → AreStartValues start values
    → AreValues start.signature start.sorts values
