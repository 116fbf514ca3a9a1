-- What crates above this one need of the crates below it.
pub use Rattle.spec_acceptance.proofs.AcceptLemmas.{AfterBook, AfterOrder, AfterRanks, AfterExits, AfterScopes, AfterData, AfterTypes}
pub use Rattle.spec_acceptance.proofs.AgainLemmas.{body_begins, accepted_data}
pub use Rattle.spec_acceptance.proofs.DecidedBooks.{normal_forms_once, opened_rules_once}
pub use Rattle.spec_acceptance.proofs.DecidedOrders.{over_once, statuses_once}
pub use Rattle.spec_acceptance.proofs.DecidedRules.{data_within, greater_also, AreAlike, rules_once}
pub use Rattle.spec_acceptance.proofs.DoingLemmas.{did_then, has_done, wants_nothing, looked, file_did, failed_first, err_out}
pub use Rattle.spec_acceptance.proofs.OneAnswer.{one_of_part, foundings_over_texts_are_one, outcomes_over_texts_are_one, comes_over}
pub use Rattle.spec_acceptance.proofs.OneAnswer.{part_comes_over}
pub use Rattle.spec_acceptance.proofs.OneFault.{acceptance_has_one_outcome, data_are_well_formed, types_are_decided}
pub use Rattle.spec_acceptance.proofs.OneRequired.{requirements_are_one}
pub use Rattle.spec_acceptance.proofs.PartLemmas.{has_determined, looks_determined, then_determined, value_or}
pub use Rattle.spec_acceptance.proofs.TextLemmas.{gets_determined, reads_determined, gathers_determined}
pub use Rattle.spec_acceptance.proofs.WholeLemmas.{scopes_are_decided}
