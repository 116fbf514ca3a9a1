-- That names are those that each equation of the code's data takes its variables' names from.
use Rattle.std.specs.Prelude.{◌≡◌, ℕ, List, map, Some, slice_get}
use Rattle.lotos_base.specs.Name.{spelling}
use Rattle.lotos_base.specs.declared.names.Name.{Name}
use Rattle.sort_terms.specs.EquationView.{equation_of, variable_of}
use Rattle.sort_terms.specs.SignatureView.{signature_of}
use Rattle.sort_terms.specs.declared.equations.Equation.{Equation}
use Rattle.sort_terms.specs.declared.equations.Flat.{Flat}
use Rattle.flat_text.specs.EquationNames.{variables_under_names, renamed_variables}

abbrev pub AreNamesFor : Flat → List Name → Type 0
AreNamesFor flat names = (i : ℕ) (equation : Equation) → slice_get flat.equations.items i ≡ Some equation
    → variables_under_names (map spelling names) (map variable_of equation.variables.items)
    ≡ renamed_variables (signature_of flat.signature) (equation_of equation)
