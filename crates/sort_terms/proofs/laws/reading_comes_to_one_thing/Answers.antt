use Rattle.sort_terms.proofs.ReadsLemmas.{comes_once}
use Rattle.sort_terms.proofs.laws.reading_comes_to_one_thing.Goals as goal

pub returns-clause-terms : goal.returns-clause-terms
returns-clause-terms c = λ signature scope w expected one other. comes_once _ _ _ one other

pub returns-clause-pairs : goal.returns-clause-pairs
returns-clause-pairs c = λ signature scope left right one other. comes_once _ _ _ one other
