-- The variables of a table of variables.
use Rattle.std.specs.Prelude.{List, map}
use Rattle.lotos_base.specs.Equation as plain
use Rattle.sort_terms.specs.EquationView.{variable_of}
use Rattle.scope_parts.specs.declared.visible.Visible.{Visible}

-- the innermost last
abbrev pub visible_in : Visible → List plain.Variable
visible_in table = map variable_of table.variables.items
