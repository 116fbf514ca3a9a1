use Rattle.std.proofs.Common.{◌≡◌, ◌++◌, drop, map}
use Rattle.lotos_base.specs.Name.{spelling}
use Rattle.spec_acceptance.proofs.required.name_copies.Given as goal

-- the names so far with those that are left
abbrev pub invariant-loop-name : goal.invariant-loop-name
invariant-loop-name l = map spelling l.made.items ++ map spelling (drop l.name-index l.names) ≡ map spelling l.names
