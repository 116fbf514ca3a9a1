-- By recursion on the list; the critical pair lemma.
use Rattle.std.proofs.Common.{inl, inr}
use Rattle.rewriting_theory.proofs.PairListLemmas.{first_unjoined, none_unjoined_confluent, unjoined_not_confluent, first_unjoined_once}
use Rattle.rewriting_theory.proofs.pair_lists.listed_pairs_decide_confluence.Goals as goal

pub returns-clause-exactly : goal.returns-clause-exactly
returns-clause-exactly c = λ rules pairs well ends are. (
  (λ confluent number pair left right is unjoined.
      unjoined_not_confluent rules pair left right well (are.critical number pair is) unjoined confluent),
  (λ none. none_unjoined_confluent rules pairs well ends are none),
)

pub returns-clause-first : goal.returns-clause-first
returns-clause-first c = λ rules pairs well ends are.
    elim (first_unjoined rules well ends pairs) [
      | inl none ↦ inl (none_unjoined_confluent rules pairs well ends are none)
      | inr some ↦ inr some
    ]

pub returns-clause-only : goal.returns-clause-only
returns-clause-only c = first_unjoined_once
