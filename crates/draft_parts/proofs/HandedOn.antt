-- What crates above this one need of the crates below it.
pub use Rattle.event_offers.proofs.KeepingLemmas.{keeps_itself, holds_after, held_before, keeps_both}
pub use Rattle.event_offers.proofs.LabelLemmas.{pairwise_nothing}
pub use Rattle.event_offers.proofs.RenamingLemmas.{occurring_sort, renamed_terms_of, renamed_pairs_of}
pub use Rattle.event_offers.proofs.ValueLemmas.{pairs_bare}
