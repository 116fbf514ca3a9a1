use Rattle.std.proofs.Common.{drop, map}
use Rattle.lotos_base.specs.Name.{spelling}
use Rattle.behaviour_semantics.specs.Behaviour.{Process}
use Rattle.behaviour_tree.specs.DefinitionView.{process_of}
use Rattle.flat_text.proofs.GivenLemmas.{AreGiven}
use Rattle.flat_text.proofs.given_names.given_names.Given as goal

-- the names so far, and those that the processes that are left are given
abbrev pub invariant-loop-process : goal.invariant-loop-process
invariant-loop-process l =
    AreGiven l.giving (map spelling l.given.items) (map (λ (p : Process). p.name) (map process_of (drop l.process-index l.process-items)))
    (map (λ (p : Process). p.name) (map process_of l.process-items))
