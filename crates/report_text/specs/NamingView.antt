-- What the names in a behaviour are looked up in, as a plain value.
use Rattle.std.specs.Prelude.{ℕ, List, map}
use Rattle.lotos_base.specs.Name.{spelling}
use Rattle.sort_terms.specs.SignatureView.{signature_of}
use Rattle.behaviour_semantics.specs.Behaviour as plain
use Rattle.behaviour_tree.specs.DefinitionView.{process_of}
use Rattle.printed_texts.specs.BehaviourText as wording
use Rattle.report_text.specs.declared.naming.Naming.{Naming}
use Rattle.report_text.specs.declared.naming.ProcessNames.{ProcessNames}
use Rattle.report_text.specs.declared.naming.ProcessNames.TheVariants.{Own, Given}

-- the names of the processes
abbrev pub names_of_processes : ProcessNames → List (List ℕ)
names_of_processes (Own processes) = map (λ (p : plain.Process). p.name) (map process_of processes.now.items)
names_of_processes (Given names) = map spelling names.now.items

-- the signature with the names
abbrev pub naming_of : Naming → wording.Naming
naming_of naming = record {
  signature = signature_of naming.signature.now;
  gates = map spelling naming.gates.now.items;
  processes = names_of_processes naming.processes;
  truth = naming.truth;
}
