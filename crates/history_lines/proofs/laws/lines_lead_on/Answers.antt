use Rattle.history_lines.proofs.ReachedLemmas.{begins_reached, line_reached}
use Rattle.history_lines.proofs.laws.lines_lead_on.Goals as goal

pub returns : goal.returns
returns c = record {
  begins = begins_reached c.sessions_follow_derivations.ensures;
  goes_on = line_reached c.sessions_follow_derivations.ensures c.sessions_stay_lawful.ensures;
}
