use Rattle.std.proofs.Common.{◌≡◌, ◌++◌, drop}
use Rattle.term_store.specs.Tasks.{form_tasks}
use Rattle.term_store.proofs.turns.add_tasks.Given as goal

abbrev pub invariant-loop-number : goal.invariant-loop-number
invariant-loop-number l =
    l.tasks.items ++ form_tasks l.forms.kept.items (drop l.number-index l.numbers)
    ≡ l.fn.tasks.items ++ form_tasks l.forms.kept.items l.numbers
