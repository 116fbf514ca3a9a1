use Rattle.std.proofs.Common.{◌≤◌, List, map}
use Rattle.behaviour_semantics.specs.Draft.{above_processes}
use Rattle.behaviour_tree.specs.DefinitionView.{process_of}
use Rattle.behaviour_tree.specs.declared.definitions.Process.{Process}
use Rattle.menu_builder.proofs.NumberLemmas.{Covers}
use Rattle.menu_builder.proofs.numbers.above_processes.Given as goal

abbrev pub invariant-loop-process : goal.invariant-loop-process
invariant-loop-process l = (l.least ≤ l.above) × Covers (λ (xs : List (Process)). above_processes (map process_of xs))
    l.process-items l.process-index l.above
