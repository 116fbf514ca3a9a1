-- By the list of the critical pairs, and its first unjoined pair.
use Rattle.rewriting_theory.proofs.PairListLemmas.{first_unjoined, decided}
use Rattle.rewriting_theory.proofs.ExistLemmas.{list_exists}
use Rattle.rewriting_theory.proofs.pair_lists.confluence_is_decided.Goals as goal

pub returns-clause-listed : goal.returns-clause-listed
returns-clause-listed c = list_exists

pub returns-clause-decided : goal.returns-clause-decided
returns-clause-decided c = λ rules well ends.
    decided rules (list_exists rules).0 well ends (list_exists rules).1 (first_unjoined rules well ends (list_exists rules).0)
