-- What crates above this one need of the crates below it.
pub use Rattle.behaviour_scopes.specs.PlacesView.{places_in}
