-- What crates above this one need of the crates below it.
pub use Rattle.type_renaming.specs.Renamed.{IsRenamed, IsRenamingFault}
