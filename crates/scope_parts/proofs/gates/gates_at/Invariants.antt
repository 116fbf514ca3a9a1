use Rattle.std.proofs.Common.{◌≡◌, drop}
use Rattle.syntax_trees.specs.TreeViews.{placed_names_of}
use Rattle.scope_parts.specs.BindingsView.{bindings_in}
use Rattle.scope_parts.specs.Scope.{gates_at}
use Rattle.scope_parts.proofs.AnswerLemmas.{prefixed}
use Rattle.scope_parts.proofs.gates.gates_at.Given as goal

abbrev pub invariant-loop-place : goal.invariant-loop-place
invariant-loop-place l =
    prefixed l.numbers.items (gates_at (bindings_in l.gates) (placed_names_of (drop l.place-index l.place-items)))
    ≡ gates_at (bindings_in l.gates) (placed_names_of l.place-items)
