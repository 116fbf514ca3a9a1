-- By recursion on the list.
use Rattle.lotos_base.proofs.TermLemmas.{list_of-terms_of, terms_of-list_of, argument_at-list_of}
use Rattle.lotos_base.proofs.terms.arguments_are_lists.Goals as goal

pub returns-clause-there_and_back : goal.returns-clause-there_and_back
returns-clause-there_and_back c = list_of-terms_of

pub returns-clause-back_and_there : goal.returns-clause-back_and_there
returns-clause-back_and_there c = terms_of-list_of

pub returns-clause-positions : goal.returns-clause-positions
returns-clause-positions c = argument_at-list_of
