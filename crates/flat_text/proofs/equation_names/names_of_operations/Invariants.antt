use Rattle.std.proofs.Common.{drop, map}
use Rattle.lotos_base.specs.Signature.{Operation}
use Rattle.scope_parts.specs.BindingsView.{bindings_in}
use Rattle.sort_terms.specs.Operations.{operation_of}
use Rattle.flat_text.proofs.TableLemmas.{HasAllBut}
use Rattle.flat_text.proofs.equation_names.names_of_operations.Given as goal

-- all names but those that are left
abbrev pub invariant-loop-op : goal.invariant-loop-op
invariant-loop-op l =
    HasAllBut (bindings_in l.names) (map (λ (o : Operation). o.name) (map operation_of (drop l.op-index l.ops)))
    (map (λ (o : Operation). o.name) (map operation_of l.ops))
