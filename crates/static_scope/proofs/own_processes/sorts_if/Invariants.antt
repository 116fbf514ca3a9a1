use Rattle.std.proofs.Common.{◌≡◌, ◌++◌, drop}
use Rattle.sort_terms.specs.ReaderView.{signature_read}
use Rattle.scope_parts.specs.Sorts.{sorts_if}
use Rattle.syntax_trees.specs.TreeViews.{written_variables_of}
use Rattle.static_scope.proofs.own_processes.sorts_if.Given as goal

abbrev pub invariant-loop-text : goal.invariant-loop-text
invariant-loop-text l =
    l.made.items ++ sorts_if (signature_read l.reader) (written_variables_of (drop l.text-index l.text-items))
    ≡ sorts_if (signature_read l.reader) (written_variables_of l.text-items)
