use Rattle.std.proofs.Common.{◌≡◌, ◌++◌, drop, map}
use Rattle.lotos_base.specs.Name.{spelling}
use Rattle.induct_check.proofs.names.name_copies.Given as goal

abbrev pub invariant-loop-name : goal.invariant-loop-name
invariant-loop-name l = map spelling l.made.items ++ map spelling (drop l.name-index l.names) ≡ map spelling l.names
