use Rattle.std.proofs.Common.{refl, ◌∙◌}
use Rattle.std.proofs.lemmas.Result.{err_from_is_err_and}
use Rattle.lotos_top.proofs.running.serve_front.Goals as goal

pub serve_behind-requires : goal.serve_behind-requires
serve_behind-requires g c = record {
  text = c.as_slice.ensures.value ∙ c.requires.text;
  serving = record {
    shown = c.requires.over;
    read = c.in_ok-reader.ensures ∙ c.requires.over;
    lawful = c.requires.lawful;
  };
}

pub returns : goal.returns
returns g c = c.serve_behind.ensures

pub returns-in_err-reader : goal.returns-in_err-reader
returns-in_err-reader g c =
    let stopped = err_from_is_err_and c.from_residual.result c.from_residual.ensures.1 in rw stopped.1 (refl, refl)
