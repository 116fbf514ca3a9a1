use Rattle.term_store.specs.Kept.{HasKeptForm}
use Rattle.term_store.specs.SharedView.{keys_in}
use Rattle.term_store.specs.Tasks.{After}
use Rattle.term_store.specs.Turns.{CanBeDone, StaySound}
use Rattle.term_store.specs.Weight.{weights}
use Rattle.term_store.proofs.turns.chosen.Given as goal

abbrev pub decreases-loop-task : goal.decreases-loop-task
decreases-loop-task l = weights l.rules (keys_in l.forms.shared) l.tasks.items

abbrev pub invariant-loop-task : goal.invariant-loop-task
invariant-loop-task l = StaySound l.rules l.fn.forms l.forms × CanBeDone l.rules l.forms l.tasks.items
    × After (HasKeptForm l.forms.kept.items) l.tasks.items l.number
