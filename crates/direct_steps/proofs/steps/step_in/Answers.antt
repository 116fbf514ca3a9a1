use Rattle.direct_steps.proofs.steps.step_in.Goals as goal

pub step_over-requires-clause-over : goal.step_over-requires-clause-over
step_over-requires-clause-over c = c.requires.known.1.over

pub step_over-requires-clause-state : goal.step_over-requires-clause-state
step_over-requires-clause-state c = c.requires.known.1.state

pub step_over-requires-clause-closed : goal.step_over-requires-clause-closed
step_over-requires-clause-closed c = c.requires.known.1.closed
