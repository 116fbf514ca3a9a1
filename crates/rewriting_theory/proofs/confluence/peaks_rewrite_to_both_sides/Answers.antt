-- One step at the root, and one at the path.
use Rattle.rewriting_theory.proofs.PlaceLemmas.{link_of_step}
use Rattle.rewriting_theory.proofs.PairLemmas.{peak_left, peak_right}
use Rattle.rewriting_theory.proofs.PublicLemmas.{peak_reaches_left, peak_reaches_right, chosen_normal}
use Rattle.rewriting_theory.proofs.confluence.peaks_rewrite_to_both_sides.Goals as goal

pub returns-clause-sides : goal.returns-clause-sides
returns-clause-sides c = λ rules pair is. (link_of_step (peak_left is), link_of_step (peak_right is))

pub returns-clause-forms : goal.returns-clause-forms
returns-clause-forms c = λ rules pair left right well is one two.
    (peak_reaches_left is one, peak_reaches_right is two, chosen_normal well one, chosen_normal well two)
