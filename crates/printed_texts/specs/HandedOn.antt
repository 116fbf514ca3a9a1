-- What crates above this one need of the crates below it.
pub use Rattle.event_offers.specs.Instances.{canonical_derivation, unmet_among}
