use Rattle.std.proofs.Common.{◌≡◌, drop}
use Rattle.process_checks.specs.Functionality.{all_disagreements, of_processes}
use Rattle.process_checks.proofs.mismatches.exits.Given as goal

abbrev pub invariant-loop-process : goal.invariant-loop-process
invariant-loop-process l =
    of_processes l.spec.processes.items (drop l.process-index l.process-items) ≡ all_disagreements l.spec
