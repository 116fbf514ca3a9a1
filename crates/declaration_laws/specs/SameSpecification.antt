-- When two specifications are the same up to places, origins and the names of processes.
use Rattle.std.specs.Prelude.{◌≡◌, List, [], ◌∷◌}
use Rattle.behaviour_semantics.specs.Behaviour.{Process, Specification}

-- Two processes that are the same but for their names.
pub record AreOneProcess (one other : Process) : Type 0 where
  pub gates : one.gates ≡ other.gates
  pub parameters : one.parameters ≡ other.parameters
  pub exit : one.exit ≡ other.exit
  pub body : one.body ≡ other.body

-- The processes are the same one by one.
abbrev pub AreSameProcesses : List Process → List Process → Type 0
AreSameProcesses [] [] = Unit {0}
AreSameProcesses (p ∷ processes) (q ∷ others) = AreOneProcess p q × AreSameProcesses processes others
AreSameProcesses _ _ = ⊥

pub record AreSameSpecifications (one other : Specification) : Type 0 where
  pub name : one.name ≡ other.name
  pub gate_names : one.gate_names ≡ other.gate_names
  pub gates : one.gates ≡ other.gates
  pub parameters : one.parameters ≡ other.parameters
  pub exit : one.exit ≡ other.exit
  pub body : one.body ≡ other.body
  pub processes : AreSameProcesses one.processes other.processes
