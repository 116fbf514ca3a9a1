-- The processes and specifications that those of the code stand for. Places are left out.
use Rattle.std.specs.Prelude.{List, ℕ, map, Option, option_map, Vec}
use Rattle.std.specs.declared.alloc.Global.{Global}
use Rattle.lotos_base.specs.Name.{spelling}
use Rattle.behaviour_semantics.specs.Behaviour as plain
use Rattle.behaviour_tree.specs.BehaviourView.{behaviour_of, variables_of}
use Rattle.behaviour_tree.specs.declared.definitions.Process.{Process}
use Rattle.behaviour_tree.specs.declared.definitions.Spec.{Spec}

-- a functionality
abbrev pub functionality_of : Option (Vec ℕ Global) → Option (List ℕ)
functionality_of exit = option_map (λ (sorts : Vec ℕ Global). sorts.items) exit

-- the process
abbrev pub process_of : Process → plain.Process
process_of process = record {
  name = spelling process.name;
  gates = process.gates.items;
  parameters = variables_of process.parameters.items;
  exit = functionality_of process.exit;
  body = behaviour_of process.body;
}

-- the specification
abbrev pub specification_of : Spec → plain.Specification
specification_of spec = record {
  name = spelling spec.name;
  gate_names = map spelling spec.gate_names.items;
  gates = spec.gates.items;
  parameters = variables_of spec.parameters.items;
  exit = functionality_of spec.exit;
  body = behaviour_of spec.body.value;
  processes = map process_of spec.processes.items;
}
