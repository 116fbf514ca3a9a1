-- What crates above this one need of the crates below it.
pub use Rattle.certificate_verbs.proofs.HandedOn.{AfterBook, AfterOrder, AfterRanks, AfterExits, AfterScopes, AfterData, AfterTypes}
pub use Rattle.certificate_verbs.proofs.HandedOn.{over_once, statuses_once, data_within, greater_also, AreAlike, rules_once, front}
pub use Rattle.certificate_verbs.proofs.HandedOn.{foundings_over_texts_are_one, outcomes_over_texts_are_one, data_are_well_formed, back}
pub use Rattle.certificate_verbs.proofs.HandedOn.{types_are_decided, value_or, looks_determined, gets_determined, reads_determined}
pub use Rattle.certificate_verbs.proofs.HandedOn.{gathers_determined, scopes_are_decided}
pub use Rattle.certificate_verbs.proofs.PartLemmas.{got_alone}
