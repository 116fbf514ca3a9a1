-- What the comparison of terms and labels up to equality obeys: on ground terms, alike and equal are the same.
use Rattle.std.specs.Prelude.{◌↔◌, List}
use Rattle.lotos_base.specs.Term.{Term}
use Rattle.lotos_base.specs.Sorting.{IsGround}
use Rattle.lotos_base.specs.Equation.{Data}
use Rattle.lotos_base.specs.Equality.{Equal}
use Rattle.behaviour_semantics.specs.Label.{Label}
use Rattle.behaviour_semantics.specs.Rule.{label_values}
use Rattle.behaviour_semantics.specs.Menu.{EqualTerms, EqualLabels}
use Rattle.behaviour_semantics.specs.Alike.{AlikeTerms, AllAlike, AlikeLabels}
use Rattle.behaviour_semantics.specs.WellFormed.{Every}

-- ground terms, and closed labels, whose values are ground, are alike exactly where they are equal
pub record ClosedAlikeIsEqual : Type 0 where
  pub terms : (data_ : Data) (t u : Term) → IsGround t → IsGround u → AlikeTerms data_ t u ↔ Equal data_ t u
  pub lists :
      (data_ : Data) (ts us : List Term) → Every IsGround ts → Every IsGround us → AllAlike data_ ts us ↔ EqualTerms data_ ts us
  pub labels :
      (data_ : Data) (label other : Label) →
      Every IsGround (label_values label) →
      Every IsGround (label_values other) →
      AlikeLabels data_ label other ↔ EqualLabels data_ label other
