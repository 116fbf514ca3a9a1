use Rattle.certificate_theory.proofs.AcceptedPairs.{pairs_give_a_bisimulation}
use Rattle.certificate_theory.proofs.bisimulations.pairs_up_to_alike_give_a_bisimulation.Goals as goal

pub returns : goal.returns
returns c = pairs_give_a_bisimulation (record {
  derived = c.transitions_are_derived.ensures;
  determined = c.moves_are_determined.ensures;
  drafts = c.drafts_are_derivations.ensures;
  solved = c.entries_are_solved.ensures;
  targets = c.targets_are_well_formed.ensures;
  one_menu = c.at_most_one_menu_is_exact.ensures;
})
