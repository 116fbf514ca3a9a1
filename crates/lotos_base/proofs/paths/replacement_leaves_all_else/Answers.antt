-- By recursion on the two paths.
use Rattle.lotos_base.proofs.PathLemmas.{subterm_parallel}
use Rattle.lotos_base.proofs.paths.replacement_leaves_all_else.Goals as goal

pub returns : goal.returns
returns c = subterm_parallel
