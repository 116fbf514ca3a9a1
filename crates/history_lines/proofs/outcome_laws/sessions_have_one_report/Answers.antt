use Rattle.history_lines.proofs.ReportOnceLemmas.{one_report}
use Rattle.history_lines.proofs.outcome_laws.sessions_have_one_report.Goals as goal

pub returns : goal.returns
returns c = λ begun standing last other told lines text another can reached tells h k.
    one_report c.lines_come_to_one_thing.ensures begun can standing last other lines text another reached
    (record { told = told; is = tells }) h k
