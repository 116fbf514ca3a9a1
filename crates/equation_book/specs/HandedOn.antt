-- What crates above this one need of the crates below it.
pub use Rattle.critical_pairs.specs.Joining.{AreUnjoinedBy, ArePeaksOf}
pub use Rattle.critical_pairs.specs.Listing.{equation_at}
pub use Rattle.path_order.specs.RulesView.{plain_rules_in}
pub use Rattle.term_store.specs.StoreCanon.{store_canon, store_chooses}
