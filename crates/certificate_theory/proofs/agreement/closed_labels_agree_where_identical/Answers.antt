use Rattle.certificate_theory.proofs.ClosedLabels.{agree_where_identical}
use Rattle.certificate_theory.proofs.agreement.closed_labels_agree_where_identical.Goals as goal

pub returns : goal.returns
returns c = agree_where_identical (record {
  derived = c.transitions_are_derived.ensures;
  determined = c.moves_are_determined.ensures;
  drafts = c.drafts_are_derivations.ensures;
  solved = c.entries_are_solved.ensures;
  targets = c.targets_are_well_formed.ensures;
  one_menu = c.at_most_one_menu_is_exact.ensures;
})
