use Rattle.std.proofs.Common.{◌≡◌, take}
use Rattle.lotos_base.specs.PlainView.{arguments_of}
use Rattle.lotos_base.proofs.plain.+identity.Given as goal

abbrev pub invariant-all_same-loop-i : goal.invariant-all_same-loop-i
invariant-all_same-loop-i l = arguments_of (take l.i l.terms.items) ≡ arguments_of (take l.i l.others.items)
