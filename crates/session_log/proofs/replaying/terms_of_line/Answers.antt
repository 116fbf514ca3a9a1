use Rattle.session_log.proofs.ReplayLemmas.{terms_told}
use Rattle.lotos_base.proofs.Options.{gave_up}
use Rattle.session_log.proofs.replaying.terms_of_line.Goals as goal

pub returns-in_err-read_terms : goal.returns-in_err-read_terms
returns-in_err-read_terms c =
    gave_up _ _ c.from_residual.result _ c.from_residual.ensures.1
    (terms_told c.args.text.now c.in_err-read_terms.field-0.0 c.in_err-read_terms.ensures)
