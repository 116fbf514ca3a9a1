use Rattle.std.proofs.Common.{◌≡◌, ◌++◌, take}
use Rattle.lotos_base.specs.Name.{folded}
use Rattle.type_presentations.proofs.keys.push_name.Given as goal

abbrev pub invariant-loop-byte : goal.invariant-loop-byte
invariant-loop-byte l = l.key.items ≡ l.fn.key.items ++ folded (take l.byte-index l.spelled)
