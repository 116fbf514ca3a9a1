use Rattle.lotos_base.proofs.Options.{gave_up}
use Rattle.session_log.proofs.entries.counted_entry.Goals as goal

pub returns-in_err-entry : goal.returns-in_err-entry
returns-in_err-entry c =
    gave_up _ _ c.from_residual.result c.in_err-entry.field-0.0 c.from_residual.ensures.1 (c.in_err-entry.ensures c.args.given)
