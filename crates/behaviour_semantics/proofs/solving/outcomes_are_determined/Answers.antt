use Rattle.behaviour_semantics.proofs.SolvingLemmas.{determined}
use Rattle.behaviour_semantics.proofs.solving.outcomes_are_determined.Goals as goal

pub returns : goal.returns
returns c = λ canon draft outcome other. determined
