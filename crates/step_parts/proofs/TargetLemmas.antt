-- Nodes with closed parts that stand for closed well-formed behaviours are states.
use Rattle.behaviour_tree.specs.declared.states.Node.{Stop, Part, Call, Parallel', Hide', Enable', Disable', Relabel'}
use Rattle.step_parts.specs.TargetNodes.{ClosedPartsMakeStates}

pub closed_state : ClosedPartsMakeStates
closed_state signature specification Stop h c = tt
closed_state signature specification (Part behaviour environment) h c = h
closed_state signature specification (Call process gates values) h c = h
closed_state signature specification (Parallel' meet _ left _ right) h c =
    (closed_state signature specification left h.0 c.1, closed_state signature specification right h.1 c.2)
closed_state signature specification (Hide' gates _ part) h c = closed_state signature specification part h c.1
closed_state signature specification (Enable' _ left variables right environment) h c =
    (closed_state signature specification left h.0 c.0, h.1)
closed_state signature specification (Disable' _ left _ right) h c =
    (closed_state signature specification left h.0 c.0, closed_state signature specification right h.1 c.1)
closed_state signature specification (Relabel' pairs _ part) h c = (c.0.0, closed_state signature specification part h c.1)
