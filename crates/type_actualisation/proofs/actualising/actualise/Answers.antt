use Rattle.std.proofs.lemmas.Result.{err_from_is_err_and}
use Rattle.type_actualisation.proofs.actualising.actualise.Goals as goal

pub returns-in_err-actualise_into : goal.returns-in_err-actualise_into
returns-in_err-actualise_into c =
    let e = err_from_is_err_and c.from_residual.result c.from_residual.ensures.1 in rw (e.1, e.2) c.in_err-actualise_into.ensures.found

pub returns : goal.returns
returns c = c.in_ok-actualise_into.ensures.0
