-- The fault of the equations of a type comes exactly where its cause stands, and the first cause counts.
use Rattle.std.specs.Prelude.{◌↔◌, ℕ, List}
use Rattle.type_definitions.specs.TypeFault.{TypeFault}
use Rattle.type_definitions.specs.Presentation.{Presentation}
use Rattle.type_definitions.specs.DeclaredEquations.{EquationQuestion, GiveAll, HasFirstFault}
use Rattle.type_flatten.specs.FirstCause.{IsNowhere}
use Rattle.type_flatten.specs.EquationCauses.{EquationsBring}

pub record EquationsAreFaultyWhereCaused : Type 0 where
  pub faulty :
      (type_name : List ℕ) (p : Presentation) (asked : List EquationQuestion) (fault : TypeFault) →
      HasFirstFault type_name p asked fault ↔ EquationsBring type_name p asked fault
  -- where no cause stands, they give a presentation
  pub given :
      (type_name : List ℕ) (p : Presentation) (asked : List EquationQuestion) →
      IsNowhere (EquationsBring type_name p asked) ↔ ((q : Presentation) × GiveAll p asked q)
