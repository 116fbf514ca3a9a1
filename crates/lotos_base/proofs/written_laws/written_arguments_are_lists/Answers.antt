-- By recursion on the list.
use Rattle.lotos_base.proofs.WrittenLemmas.{written_list-written_terms, written_terms-written_list}
use Rattle.lotos_base.proofs.written_laws.written_arguments_are_lists.Goals as goal

pub returns-clause-there_and_back : goal.returns-clause-there_and_back
returns-clause-there_and_back c = written_list-written_terms

pub returns-clause-back_and_there : goal.returns-clause-back_and_there
returns-clause-back_and_there c = written_terms-written_list
