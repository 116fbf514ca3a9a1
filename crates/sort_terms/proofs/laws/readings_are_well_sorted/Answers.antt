use Rattle.sort_terms.proofs.ReadsLemmas.{reads_sorted}
use Rattle.sort_terms.proofs.laws.readings_are_well_sorted.Goals as goal

pub returns : goal.returns
returns c = λ signature scope w t sort over. reads_sorted signature scope over w t sort
