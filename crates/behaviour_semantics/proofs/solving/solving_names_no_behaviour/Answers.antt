use Rattle.behaviour_semantics.proofs.SolvingAnyDraft.{solving_any}
use Rattle.behaviour_semantics.proofs.solving.solving_names_no_behaviour.Goals as goal

pub returns : goal.returns
returns c = solving_any
