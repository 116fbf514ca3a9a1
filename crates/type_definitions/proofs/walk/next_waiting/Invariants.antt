use Rattle.std.proofs.Common.{◌≡◌, ◌≤◌, ◌<◌, ℕ, get_or}
use Rattle.type_definitions.specs.Walking.{progress_at}
use Rattle.type_definitions.specs.declared.walk.Progress.TheVariants.{Done}
use Rattle.type_definitions.proofs.walk.next_waiting.Given as goal

abbrev pub invariant-loop-position : goal.invariant-loop-position
invariant-loop-position l =
    (k : ℕ) → l.from ≤ k → k < l.position → progress_at l.progress (get_or l.mentioned k 0) ≡ Done
