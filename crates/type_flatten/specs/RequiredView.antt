-- The requirements that the code answers.
use Rattle.std.specs.Prelude.{◌≡◌, ℕ, List, Some, map, slice_get}
use Rattle.lotos_base.specs.Equation.{Data, IsEquationOver}
use Rattle.sort_terms.specs.EquationView.{equation_of}
use Rattle.sort_terms.specs.declared.equations.Equation.{Equation}
use Rattle.type_definitions.specs.DeclaredTypes.{DeclaredType}
use Rattle.type_definitions.specs.Flattened.{IsFlattening}
use Rattle.type_definitions.specs.Requirements.{AreRequirements}
use Rattle.type_presentations.specs.EquationListView.{HasSidesOver}

-- These are the requirements of the types: well-formed equations over the signature of their data, whose terms carry its
-- profiles.
pub record AreRequired (types : List DeclaredType) (equations : List Equation) : Type 0 where
  pub are : AreRequirements types (map equation_of equations)
  pub data_ : Data
  pub flattened : IsFlattening types data_
  pub over : (i : ℕ) (e : Equation) → slice_get equations i ≡ Some e
      → IsEquationOver data_.signature (equation_of e) × HasSidesOver data_.signature e
