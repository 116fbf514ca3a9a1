use Rattle.std.proofs.Common.{map}
use Rattle.sort_terms.specs.EquationView.{variable_of}
use Rattle.syntax_trees.specs.TreeViews.{written_variables_of}
use Rattle.induct_check.specs.KnownView.{known_signature}
use Rattle.induct_check.proofs.VariableSteps.{AreNumberedSoFar}
use Rattle.induct_check.proofs.variables.numbered.Given as goal

abbrev pub invariant-loop-number : goal.invariant-loop-number
invariant-loop-number l =
    AreNumberedSoFar (known_signature l.known) (written_variables_of l.written) l.number (map variable_of l.made.items)
