use Rattle.std.proofs.Common.{◌≡◌, drop}
use Rattle.behaviour_semantics.specs.Label.{gate_under}
use Rattle.draft_parts.proofs.rules.gate_under.Given as goal

abbrev pub invariant-loop-formal : goal.invariant-loop-formal
invariant-loop-formal l = gate_under (drop l.formal-index l.pairs) l.gate ≡ gate_under l.pairs l.gate
