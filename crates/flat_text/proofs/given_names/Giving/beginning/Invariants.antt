use Rattle.std.proofs.Common.{drop, map}
use Rattle.behaviour_semantics.specs.Behaviour.{Process}
use Rattle.behaviour_tree.specs.DefinitionView.{process_of}
use Rattle.scope_parts.specs.BindingsView.{bindings_in}
use Rattle.flat_text.proofs.TableLemmas.{HasAllBut}
use Rattle.flat_text.proofs.given_names.Giving.beginning.Given as goal

-- all names but those that are left
abbrev pub invariant-loop-process : goal.invariant-loop-process
invariant-loop-process l =
    HasAllBut (bindings_in l.taken) (map (λ (p : Process). p.name) (map process_of (drop l.process-index l.process-items)))
    (map (λ (p : Process). p.name) (map process_of l.process-items))
