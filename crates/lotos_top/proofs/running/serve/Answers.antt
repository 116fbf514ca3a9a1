use Rattle.std.proofs.Common.{refl}
use Rattle.std.proofs.lemmas.Result.{err_from_is_err_and}
use Rattle.lotos_top.proofs.running.serve.Goals as goal

pub serve_front-requires : goal.serve_front-requires
serve_front-requires g c = record { text = c.in_ok-front.ensures.0; over = c.in_ok-front.ensures.1; lawful = c.requires.lawful }

pub returns-in_err-front : goal.returns-in_err-front
returns-in_err-front g c =
    let stopped = err_from_is_err_and c.from_residual.result c.from_residual.ensures.1 in rw stopped.1 (refl, refl)
