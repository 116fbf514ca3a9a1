use Rattle.std.proofs.lemmas.Result.{err_from_is_err_and}
use Rattle.type_equations.proofs.declaring.declare_equations.Goals as goal

pub returns-in_err-give_equations : goal.returns-in_err-give_equations
returns-in_err-give_equations c =
    let e = err_from_is_err_and c.from_residual.result c.from_residual.ensures.1 in
    rw (e.1, e.2) c.in_err-give_equations.ensures.given

pub returns : goal.returns
returns c =
    (c.in_ok-give_equations.ensures.given, c.in_ok-give_equations.ensures.sound, c.in_ok-give_equations.ensures.within)
