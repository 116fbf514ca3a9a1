use Rattle.std.proofs.Common.{◌≡◌, ◌++◌, map, drop}
use Rattle.behaviour_semantics.specs.Label.{gate_under}
use Rattle.step_parts.proofs.targets.gates_under.Given as goal

abbrev pub invariant-loop-gate : goal.invariant-loop-gate
invariant-loop-gate l =
    l.made.items ++ map (gate_under l.pairs.items) (drop l.gate-index l.gate-items) ≡ map (gate_under l.pairs.items) l.gate-items
