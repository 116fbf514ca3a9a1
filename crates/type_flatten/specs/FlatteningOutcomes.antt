-- What flattening comes to is one thing: the data of types, or their first fault.
use Rattle.std.specs.Prelude.{◌≡◌, ℕ, List}
use Rattle.lotos_base.specs.Equation.{Data, Equation}
use Rattle.type_definitions.specs.DeclaredTypes.{DeclaredType}
use Rattle.type_definitions.specs.TypeFault.{TypeFault}
use Rattle.type_definitions.specs.Presentation.{Presentation}
use Rattle.type_definitions.specs.DeclaredEquations.{EquationQuestion, GiveAll, HasFirstFault}
use Rattle.type_definitions.specs.Flattened.{IsFlattening, IsFlatteningFault}
use Rattle.type_definitions.specs.Requirements.{AreRequirements}

-- what the equations of a type come to is one thing, whatever they are read over: they give one presentation, or the first
-- of them with a fault has one
pub record AreEquationsDecided (type_name : List ℕ) (p : Presentation) (asked : List EquationQuestion) : Type 0 where
  pub one_presentation : (q r : Presentation) → GiveAll p asked q → GiveAll p asked r → q ≡ r
  pub not_both : (q : Presentation) (fault : TypeFault) → GiveAll p asked q → HasFirstFault type_name p asked fault → ⊥
  pub one_fault : (fault other : TypeFault) → HasFirstFault type_name p asked fault → HasFirstFault type_name p asked other
      → fault ≡ other

abbrev pub EquationsAreDecided : Type 0
EquationsAreDecided = (type_name : List ℕ) (p : Presentation) (asked : List EquationQuestion) → AreEquationsDecided type_name p asked

-- and so is what flattening comes to
pub record IsFlatteningDecided (types : List DeclaredType) : Type 0 where
  pub one_data : (data_ other : Data) → IsFlattening types data_ → IsFlattening types other → data_ ≡ other
  pub not_both : (data_ : Data) (fault : TypeFault) → IsFlattening types data_ → IsFlatteningFault types fault → ⊥
  pub one_fault : (fault other : TypeFault) → IsFlatteningFault types fault → IsFlatteningFault types other → fault ≡ other

abbrev pub FlatteningIsDecided : Type 0
FlatteningIsDecided = (types : List DeclaredType) → IsFlatteningDecided types

-- and so are the requirements of types
abbrev pub RequirementsAreOne : Type 0
RequirementsAreOne = (types : List DeclaredType) (one other : List Equation) → AreRequirements types one → AreRequirements types other
    → one ≡ other
