use Rattle.behaviour_semantics.proofs.RelabelledTransitions.{under_others, under_calls}
use Rattle.behaviour_semantics.proofs.relabelling.under_has_the_labels.Goals as goal

pub returns : goal.returns
returns c = record { others = under_others; calls = under_calls }
