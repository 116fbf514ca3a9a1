use Rattle.session_laws.proofs.TermsReadBackLemmas.{term_lists_read_back}
use Rattle.session_laws.proofs.term_text_laws.term_lists_are_read_back.Goals as goal

pub returns : goal.returns
returns c = term_lists_read_back
