use Rattle.bisim_check.proofs.NumberTexts.{no_space, no_first, no_second, both_read}
use Rattle.bisim_check.proofs.Results.{gave_none}
use Rattle.bisim_check.proofs.numbers.read_two.Goals as goal

pub returns-in_err-space : goal.returns-in_err-space
returns-in_err-space c =
    gave_none _ _ c.from_residual.result c.from_residual.ensures (no_space c.args.bytes.now c.in_err-space.ensures)

pub returns-in_err-first : goal.returns-in_err-first
returns-in_err-first c =
    gave_none _ _ c.from_residual-in_err-first.result c.from_residual-in_err-first.ensures
    (no_first c.args.bytes.now c.in_ok-space.space c.in_ok-space.ensures c.in_err-first.ensures)

pub returns-in_err-second : goal.returns-in_err-second
returns-in_err-second c =
    gave_none _ _ c.from_residual-in_err-second.result c.from_residual-in_err-second.ensures
    (no_second c.args.bytes.now c.in_ok-space.space c.in_ok-space.ensures c.in_err-second.ensures)

pub returns : goal.returns
returns c = (
  both_read c.args.bytes.now c.in_ok-space.space c.in_ok-first.first c.in_ok-second.second c.in_ok-space.ensures
      c.in_ok-first.ensures.0 c.in_ok-second.ensures.0,
  c.in_ok-first.ensures.1,
  c.in_ok-second.ensures.1,
)
