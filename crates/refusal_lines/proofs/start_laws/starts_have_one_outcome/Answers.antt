use Rattle.refusal_lines.proofs.OutcomeLemmas.{starts_have_one_outcome}
use Rattle.refusal_lines.proofs.start_laws.starts_have_one_outcome.Goals as goal

pub returns : goal.returns
returns c = starts_have_one_outcome
