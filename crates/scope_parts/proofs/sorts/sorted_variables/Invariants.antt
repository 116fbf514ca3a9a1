use Rattle.std.proofs.Common.{◌≡◌, drop, map}
use Rattle.syntax_trees.specs.TreeViews.{written_variables_of}
use Rattle.sort_terms.specs.EquationView.{variable_of}
use Rattle.sort_terms.specs.ReaderView.{signature_read}
use Rattle.scope_parts.specs.Sorts.{sorted_variables}
use Rattle.scope_parts.proofs.AnswerLemmas.{prefixed}
use Rattle.scope_parts.proofs.sorts.sorted_variables.Given as goal

abbrev pub invariant-loop-text : goal.invariant-loop-text
invariant-loop-text l =
    prefixed (map variable_of l.made.items)
    (sorted_variables (signature_read l.reader) l.number (written_variables_of (drop l.text-index l.text-items)))
    ≡ sorted_variables (signature_read l.reader) l.first (written_variables_of l.text-items)
