use Rattle.std.proofs.lemmas.Result.{err_from_is_err_and}
use Rattle.lotos_top.proofs.OpeningLemmas.{no_line_ready, no_line_came}
use Rattle.lotos_top.proofs.opening.usage_ready.Goals as goal

pub returns : goal.returns
returns c = λ line now none.
    no_line_ready line now c.in_ok-usage_alone.field-0 none c.in_ok-usage_alone.ensures.0 c.in_ok-usage_alone.ensures.1

pub returns-in_err-usage_alone : goal.returns-in_err-usage_alone
returns-in_err-usage_alone c = λ line now none.
    let stopped = err_from_is_err_and c.from_residual.result c.from_residual.ensures.1 in rw stopped.1 (no_line_came line now none)
