-- What crates above this one need of the crates below it.
pub use Rattle.command_words.proofs.HandedOn.{has_done, foundings_over_texts_are_one, AfterBook, AfterOrder, AfterRanks, AfterExits}
pub use Rattle.command_words.proofs.HandedOn.{AfterScopes, AfterData, AfterTypes, over_once, statuses_once, data_within, greater_also}
pub use Rattle.command_words.proofs.HandedOn.{AreAlike, rules_once, outcomes_over_texts_are_one, data_are_well_formed, types_are_decided}
pub use Rattle.command_words.proofs.HandedOn.{value_or, looks_determined, gets_determined, reads_determined, gathers_determined, comes_over}
pub use Rattle.command_words.proofs.HandedOn.{scopes_are_decided, did_then, wants_nothing, failed_first, part_comes_over, err_out}
pub use Rattle.command_words.proofs.WordsLemmas.{values_within}
pub use Rattle.demo_walks.proofs.HandedOn.{counts_rise, count_rises}
pub use Rattle.induct_check.proofs.HandedOn.{renamed_holds, front, back, gives_nothing}
