use Rattle.std.proofs.Common.{◌≡◌, drop}
use Rattle.lotos_base.specs.PlainView.{pairs_of_values}
use Rattle.lotos_base.specs.Substitution.{binding}
use Rattle.lotos_base.proofs.plain.value_of.Given as goal

abbrev pub invariant-loop-known : goal.invariant-loop-known
invariant-loop-known l =
    binding (pairs_of_values l.values) l.number l.sort ≡ binding (pairs_of_values (drop l.known-index l.values)) l.number l.sort
