use Rattle.std.proofs.Common.{◌≡◌, ◌++◌, take}
use Rattle.type_presentations.proofs.keys.push_numbers.Given as goal

abbrev pub invariant-loop-number : goal.invariant-loop-number
invariant-loop-number l = l.key.items ≡ l.fn.key.items ++ take l.number-index l.numbers
