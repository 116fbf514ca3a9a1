-- What crates above this one need of the crates below it.
pub use Rattle.menu_builder.specs.HandedOn.{AreRanksOf, call_pairs}
pub use Rattle.menu_builder.specs.Menus.{entries_in}
pub use Rattle.menu_builder.specs.Nodes.{IsKnownNode}
pub use Rattle.event_offers.specs.Keeping.{KeepsData}
pub use Rattle.event_offers.specs.Parts.{menu_entries, part_entries}
pub use Rattle.event_offers.specs.OfferView.{plain_entry}
pub use Rattle.event_offers.specs.Offers.{IsEntryOver, IsOrderedEntry}
pub use Rattle.event_offers.specs.declared.drafts.Entry.{Entry}
pub use Rattle.event_offers.specs.declared.menus.Menu.{Menu}
pub use Rattle.event_offers.specs.declared.parts.MenuPart.{MenuPart}
