use Rattle.std.proofs.Common.{◌≡◌, ◌+◌, suc, refl, arith}
use Rattle.induct_parts.proofs.checking.check_complete.Goals as goal

pub returns-in-Some-clause-lacking : goal.returns-in-Some-clause-lacking
returns-in-Some-clause-lacking c =
    let at : c.in-Some.number + 1 ≡ suc c.in-Some.number = omega arith in
    (c.in-Some.number, c.in-Some.operation, c.in-Some.ensures.0, at, refl)
