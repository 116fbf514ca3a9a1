use Rattle.std.proofs.Common.{◌≡◌, drop}
use Rattle.behaviour_semantics.specs.Label.{formals_of}
use Rattle.lotos_base.specs.Substitution.{is_listed}
use Rattle.step_parts.proofs.targets.has_formal.Given as goal

abbrev pub invariant-loop-pair : goal.invariant-loop-pair
invariant-loop-pair l = is_listed (formals_of l.pair-items) l.gate ≡ is_listed (formals_of (drop l.pair-index l.pair-items)) l.gate
