-- The peak rewrites to both chosen forms, which are irreducible and differ.
use Rattle.rewriting_theory.proofs.PairListLemmas.{unjoined_not_confluent, unjoined_two}
use Rattle.rewriting_theory.proofs.pair_lists.unjoined_pairs_refute_confluence.Goals as goal

pub returns-clause-refuted : goal.returns-clause-refuted
returns-clause-refuted c = unjoined_not_confluent

pub returns-clause-two : goal.returns-clause-two
returns-clause-two c = unjoined_two
