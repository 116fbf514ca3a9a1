use Rattle.std.proofs.Common.{◌≡◌, ◌++◌, drop, map}
use Rattle.lotos_base.specs.Name.{spelling}
use Rattle.sort_terms.specs.EquationView.{variable_of}
use Rattle.flat_text.specs.EquationNames.{variables_under_names}
use Rattle.flat_text.proofs.equation_names.renamed.Given as goal

-- the variables so far, and those that are left
abbrev pub invariant-loop-index : goal.invariant-loop-index
invariant-loop-index l =
    map variable_of l.made.items ++ variables_under_names (map spelling (drop l.index l.names.items))
    (map variable_of (drop l.index l.variables.items))
    ≡ variables_under_names (map spelling l.names.items) (map variable_of l.variables.items)
