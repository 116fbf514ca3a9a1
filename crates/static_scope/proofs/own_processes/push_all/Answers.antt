use Rattle.std.proofs.Common.{◌≡◌, ◌++◌, [], map, ap, sym, ◌∙◌}
use Rattle.std.proofs.lemmas.List.{nil_from_length}
use Rattle.scope_parts.specs.CallablesView.{callable_in}
use Rattle.scope_parts.specs.ProcessesView.{processes_in}
use Rattle.static_scope.proofs.StackLemmas.{moved}
use Rattle.static_scope.proofs.own_processes.push_all.Goals as goal

pub loop-process-preserved : goal.loop-process-preserved
loop-process-preserved c =
    moved callable_in c.loop-process.rest.items c.pop.new.self.items c.in-Some.process (processes_in c.loop-process.visible)
    (processes_in c.push.new.self) _ c.in-Some.ensures.items c.in_ok-push.ensures c.loop-process.invariant

pub returns : goal.returns
returns c =
    let none : c.loop-process.rest.items ≡ [] =
    nil_from_length c.loop-process.rest.items (sym c.loop-process.rest.ok.0 ∙ c.in_default.ensures.cases.0) in
    sym (ap (λ xs. map callable_in xs ++ processes_in c.loop-process.visible) none) ∙ c.loop-process.invariant
