use Rattle.history_lines.proofs.AnsweredLemmas.{served_answered}
use Rattle.history_lines.proofs.laws.served_lines_are_answered.Goals as goal

pub returns : goal.returns
returns c = served_answered c.lines_lead_on.ensures
