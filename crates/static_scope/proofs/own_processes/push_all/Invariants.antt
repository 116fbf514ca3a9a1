use Rattle.std.proofs.Common.{◌≡◌, ◌++◌, vec_len}
use Rattle.scope_parts.specs.ProcessesView.{processes_in}
use Rattle.static_scope.specs.CallableList.{callables_in}
use Rattle.static_scope.proofs.own_processes.push_all.Given as goal

abbrev pub invariant-loop-process : goal.invariant-loop-process
invariant-loop-process l =
    callables_in l.rest.items ++ processes_in l.visible ≡ callables_in l.initial.rest.items ++ processes_in l.initial.visible

abbrev pub decreases-loop-process : goal.decreases-loop-process
decreases-loop-process l = vec_len l.rest
