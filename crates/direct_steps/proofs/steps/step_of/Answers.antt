use Rattle.direct_steps.proofs.steps.step_of.Goals as goal

pub take-requires-clause-over : goal.take-requires-clause-over
take-requires-clause-over c = c.requires.over

pub take-requires-clause-state : goal.take-requires-clause-state
take-requires-clause-state c = c.requires.state

pub take-requires-clause-closed : goal.take-requires-clause-closed
take-requires-clause-closed c = c.requires.closed

pub take-requires-clause-leaves : goal.take-requires-clause-leaves
take-requires-clause-leaves c = c.requires.leaves
