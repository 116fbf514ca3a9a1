-- What variables, equations and data of the code stand for in the algebra of terms.
use Rattle.std.specs.Prelude.{◌≡◌, ℕ, Some, slice_get, map}
use Rattle.lotos_base.specs.Name.{spelling}
use Rattle.lotos_base.specs.WrittenView.{text_place_of}
use Rattle.lotos_base.specs.Equation.{Data, AreSortedData, Variable as PlainVariable, Equation as PlainEquation}
use Rattle.sort_terms.specs.ProfiledTerm.{IsOf}
use Rattle.sort_terms.specs.SignatureView.{signature_of}
use Rattle.sort_terms.specs.SortedView.{profiled_in, term_in}
use Rattle.sort_terms.specs.declared.equations.Variable.{Variable}
use Rattle.sort_terms.specs.declared.equations.Equation.{Equation}
use Rattle.sort_terms.specs.declared.equations.Flat.{Flat}

-- the variable
abbrev pub variable_of : Variable → PlainVariable
variable_of variable = record { name = spelling variable.name; number = variable.number; sort = variable.sort }

-- the equation
abbrev pub equation_of : Equation → PlainEquation
equation_of equation = record {
  place = text_place_of equation.place;
  variables = map variable_of equation.variables.items;
  left = term_in equation.left;
  right = term_in equation.right;
}

-- the data
abbrev pub data_of : Flat → Data
data_of flat = record {
  signature = signature_of flat.signature;
  equations = map equation_of flat.equations.items;
}

-- The sides of each equation are of the signature, and so carry its profiles.
abbrev pub HasSidesOf : Flat → Type 0
HasSidesOf flat = (i : ℕ) (equation : Equation) → slice_get flat.equations.items i ≡ Some equation
    → IsOf (signature_of flat.signature) (profiled_in equation.left) × IsOf (signature_of flat.signature) (profiled_in equation.right)

-- What a call that takes data asks of them: the sides of each equation are of the signature and have one sort, and a
-- variable number has one sort in an equation.
pub record IsSortedFlat (flat : Flat) : Type 0 where
  pub sides : HasSidesOf flat
  pub data_ : AreSortedData (data_of flat)
