-- What crates above this one need of the crates below it.
pub use Rattle.draft_parts.specs.HandedOn.{canonical_derivation, label_profiles, plain_entry, menu_entries, Menu, Entry, unmet_among, IsEntryOf}
pub use Rattle.draft_parts.specs.HandedOn.{IsEntryOver, KeepsData}
pub use Rattle.draft_parts.specs.Meeting.{sorts_told, may_be_met}
pub use Rattle.draft_parts.specs.Rows.{call_pairs}
pub use Rattle.draft_parts.specs.VariantView.{variant_of}
pub use Rattle.process_checks.specs.Ranks.{AreRanksOf}
pub use Rattle.process_checks.specs.declared.rank_table.Ranks.{Ranks}
