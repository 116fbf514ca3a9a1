use Rattle.session_laws.proofs.TermMeanings.{term_means}
use Rattle.session_laws.proofs.written_laws.read_terms_mean_themselves.Goals as goal

pub returns : goal.returns
returns c = term_means
