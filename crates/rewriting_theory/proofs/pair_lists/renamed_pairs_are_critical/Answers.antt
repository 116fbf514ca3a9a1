-- A renaming that keeps the variables of the peak apart can be undone.
use Rattle.rewriting_theory.proofs.RenumberLemmas.{renamed_critical}
use Rattle.rewriting_theory.proofs.pair_lists.renamed_pairs_are_critical.Goals as goal

pub returns : goal.returns
returns c = λ rules pair number is keeps. renamed_critical pair number is keeps
