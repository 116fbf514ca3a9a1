use Rattle.behaviour_semantics.proofs.RelabellingLemmas.{gate_under-then, label_under-then}
use Rattle.behaviour_semantics.proofs.RelabelledTransitions.{to_one, to_two}
use Rattle.behaviour_semantics.proofs.relabelling.composed_relabellings_agree.Goals as goal

pub returns : goal.returns
returns c = record {
  gates = gate_under-then;
  labels = label_under-then;
  transitions = λ data_ processes first second b label. (
    to_one data_ processes first second b label,
    to_two data_ processes first second b label,
  );
}
