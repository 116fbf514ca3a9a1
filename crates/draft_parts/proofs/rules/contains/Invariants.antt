use Rattle.std.proofs.Common.{◌≡◌, drop}
use Rattle.lotos_base.specs.Substitution.{is_listed}
use Rattle.draft_parts.proofs.rules.contains.Given as goal

abbrev pub invariant-loop-listed : goal.invariant-loop-listed
invariant-loop-listed l = is_listed (drop l.listed-index l.gates) l.gate ≡ is_listed l.gates l.gate
