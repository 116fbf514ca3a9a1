-- What crates above this one need of the crates below it.
pub use Rattle.behaviour_tree.specs.BehaviourView.{terms_of}
pub use Rattle.event_offers.specs.Instances.{AreValuesOver}
pub use Rattle.event_offers.specs.Keeping.{KeepsData}
pub use Rattle.event_offers.specs.OfferView.{plain_entry}
pub use Rattle.event_offers.specs.Offers.{IsEntryOf}
pub use Rattle.event_offers.specs.declared.drafts.Entry.{Entry}
pub use Rattle.path_order.specs.RulesView.{plain_rules_in}
