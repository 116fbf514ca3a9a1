use Rattle.std.proofs.Common.{◌≡◌, drop}
use Rattle.lotos_base.specs.Substitution.{is_listed}
use Rattle.induct_parts.proofs.cases.is_gone.Given as goal

abbrev pub invariant-loop-known : goal.invariant-loop-known
invariant-loop-known l = is_listed l.gone l.number ≡ is_listed (drop l.known-index l.gone) l.number
