use Rattle.behaviour_semantics.proofs.SolvingAnyDraft.{any_values}
use Rattle.behaviour_semantics.proofs.solving.any_values_will_do.Goals as goal

pub returns : goal.returns
returns c = any_values
