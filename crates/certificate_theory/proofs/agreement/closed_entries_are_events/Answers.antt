use Rattle.certificate_theory.proofs.ClosedLabels.{entries_are_events}
use Rattle.certificate_theory.proofs.agreement.closed_entries_are_events.Goals as goal

pub returns : goal.returns
returns c = entries_are_events (record {
  derived = c.transitions_are_derived.ensures;
  determined = c.moves_are_determined.ensures;
  drafts = c.drafts_are_derivations.ensures;
  solved = c.entries_are_solved.ensures;
  targets = c.targets_are_well_formed.ensures;
  one_menu = c.at_most_one_menu_is_exact.ensures;
})
