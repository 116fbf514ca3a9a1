-- By recursion on the path.
use Rattle.lotos_base.proofs.PathLemmas.{subterm-put_at, put_at-subterm, put_at_twice, put_at_possible, subterm_possible}
use Rattle.lotos_base.proofs.paths.subterm_and_replacement_undo_each_other.Goals as goal

pub returns-clause-found : goal.returns-clause-found
returns-clause-found c = subterm-put_at

pub returns-clause-put_back : goal.returns-clause-put_back
returns-clause-put_back c = put_at-subterm

pub returns-clause-twice : goal.returns-clause-twice
returns-clause-twice c = put_at_twice

pub returns-clause-possible : goal.returns-clause-possible
returns-clause-possible c = λ path part t. (
  (λ put. subterm_possible path part t put.0 put.1),
  (λ found. put_at_possible path part t found.0 found.1),
)
