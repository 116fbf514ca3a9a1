use Rattle.std.proofs.lemmas.Result.{err_from_is_err_and}
use Rattle.type_definitions.proofs.HoldsLemmas.{holds_weaker}
use Rattle.type_renaming.proofs.actual_ops.actual_of_op.Goals as goal

pub returns-in_err-number : goal.returns-in_err-number
returns-in_err-number c =
    let e = err_from_is_err_and c.from_residual.result c.from_residual.ensures.1 in
    rw (e.1, e.2) (λ a at parts.
    holds_weaker _ _ c.in_err-number.field-0.0 (λ f lacks. (c.if-is_formal.true, lacks)) (c.in_err-number.ensures a at parts))

pub returns-then-is_formal : goal.returns-then-is_formal
returns-then-is_formal c = λ a at parts.
    let here = c.in_ok-number.ensures a at parts in (c.if-is_formal.true, here.0, here.1)

pub returns : goal.returns
returns c = λ a at parts. c.if-is_formal.false
