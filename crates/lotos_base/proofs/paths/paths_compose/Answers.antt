-- By recursion on the first path.
use Rattle.lotos_base.proofs.PathLemmas.{subterm-append, put_at-append}
use Rattle.lotos_base.proofs.paths.paths_compose.Goals as goal

pub returns-clause-subterms : goal.returns-clause-subterms
returns-clause-subterms c = subterm-append

pub returns-clause-replacements : goal.returns-clause-replacements
returns-clause-replacements c = put_at-append
