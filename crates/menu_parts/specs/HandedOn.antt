-- What crates above this one need of the crates below it.
pub use Rattle.shared_entries.specs.HandedOn.{call_pairs, plain_entry, IsEntryOver, IsOrderedEntry, Entry, Menu}
