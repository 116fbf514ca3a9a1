-- What the resolver knows.
use Rattle.sort_terms.specs.ReaderView.{signature_read}
use Rattle.scope_parts.specs.GatesView.{gates_in}
use Rattle.scope_parts.specs.ProcessesView.{processes_in}
use Rattle.behaviour_scopes.specs.ResolverState.{State}
use Rattle.scope_parts.specs.VisibleView.{visible_in}
use Rattle.behaviour_scopes.specs.declared.resolver.Resolver.{Resolver}

abbrev pub state_in : Resolver → State
state_in resolver = record {
  signature = signature_read resolver.terms.reader;
  names = (gates_in resolver.gates).names;
  scope = record {
    gates = (gates_in resolver.gates).visible;
    variables = visible_in resolver.variables;
    processes = processes_in resolver.processes;
  };
  variable = resolver.next_variable;
  process = resolver.next_process;
}
