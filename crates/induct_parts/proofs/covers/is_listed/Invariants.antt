use Rattle.std.proofs.Common.{◌≡◌, drop}
use Rattle.lotos_base.specs.Substitution.{is_listed}
use Rattle.induct_parts.proofs.covers.is_listed.Given as goal

abbrev pub invariant-loop-known : goal.invariant-loop-known
invariant-loop-known l = is_listed l.numbers l.number ≡ is_listed (drop l.known-index l.numbers) l.number
