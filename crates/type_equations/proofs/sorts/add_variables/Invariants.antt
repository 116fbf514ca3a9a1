use Rattle.std.proofs.Common.{◌≡◌, ◌++◌, length, map, take}
use Rattle.syntax_trees.specs.TreeViews.{written_variables_of}
use Rattle.sort_terms.specs.EquationView.{variable_of}
use Rattle.sort_terms.specs.ReaderView.{signature_read}
use Rattle.type_definitions.specs.Presentation.{Presentation}
use Rattle.type_definitions.specs.DeclaredEquations.{GiveAll, asked_of_variables, scope_from}
use Rattle.type_equations.proofs.sorts.add_variables.Given as goal

abbrev pub invariant-loop-text : goal.invariant-loop-text
invariant-loop-text l = (p : Presentation) → p.signature ≡ signature_read l.reader
    → GiveAll p (asked_of_variables (written_variables_of (take l.text-index l.written))) p
    × (map variable_of l.variables.items
    ≡ map variable_of l.fn.variables.items ++ scope_from p (length l.fn.variables.items)
    (written_variables_of (take l.text-index l.written)))
