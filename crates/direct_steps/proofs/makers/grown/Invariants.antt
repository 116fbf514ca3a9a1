use Rattle.direct_steps.proofs.GrownLemmas.{IsGrown}
use Rattle.direct_steps.proofs.makers.grown.Given as goal

abbrev pub invariant-loop : goal.invariant-loop
invariant-loop l = IsGrown l.state l.node
