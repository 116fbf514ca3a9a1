-- What crates above this one need of the crates below it.
pub use Rattle.event_offers.specs.Instances.{canonical_derivation, unmet_among}
pub use Rattle.event_offers.specs.Keeping.{KeepsData}
pub use Rattle.event_offers.specs.OfferView.{label_profiles, plain_draft, plain_entry, condition_of}
pub use Rattle.event_offers.specs.Offers.{IsDraftOver, IsEntryOver, AreConditionsOf, IsEntryOf}
pub use Rattle.event_offers.specs.Parts.{menu_entries}
pub use Rattle.event_offers.specs.declared.drafts.Draft.{Draft}
pub use Rattle.event_offers.specs.declared.drafts.Entry.{Entry}
pub use Rattle.event_offers.specs.declared.menus.Menu.{Menu}
pub use Rattle.event_offers.specs.declared.renaming.Renaming.TheVariants.{Lowered}
