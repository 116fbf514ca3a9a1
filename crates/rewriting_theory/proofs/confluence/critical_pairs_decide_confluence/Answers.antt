-- Each overlap is an instance of a critical pair.
use Rattle.rewriting_theory.proofs.PlaceLemmas.{link_of_step}
use Rattle.rewriting_theory.proofs.PairLemmas.{peak_left, peak_right}
use Rattle.rewriting_theory.proofs.PublicLemmas.{pairs_local, agreeing_confluent, confluent_agreeing}
use Rattle.rewriting_theory.proofs.confluence.critical_pairs_decide_confluence.Goals as goal

pub returns-clause-lemma : goal.returns-clause-lemma
returns-clause-lemma c = λ rules well. (
  (λ local pair is. local pair.peak pair.left pair.right (link_of_step (peak_left is)) (link_of_step (peak_right is))),
  (λ all. pairs_local rules well all),
)

pub returns-clause-forms : goal.returns-clause-forms
returns-clause-forms c = λ rules well ends.
    ((λ confluent. confluent_agreeing rules well confluent), (λ agree. agreeing_confluent rules well ends agree))
