use Rattle.std.proofs.Common.{◌≡◌, drop}
use Rattle.syntax_trees.specs.TreeViews.{placed_names_of}
use Rattle.sort_terms.specs.ReaderView.{signature_read}
use Rattle.scope_parts.specs.Sorts.{sorts_at}
use Rattle.scope_parts.proofs.AnswerLemmas.{prefixed}
use Rattle.scope_parts.proofs.sorts.sorts_at.Given as goal

abbrev pub invariant-loop-place : goal.invariant-loop-place
invariant-loop-place l =
    prefixed l.sorts.items (sorts_at (signature_read l.reader) (placed_names_of (drop l.place-index l.place-items)))
    ≡ sorts_at (signature_read l.reader) (placed_names_of l.place-items)
