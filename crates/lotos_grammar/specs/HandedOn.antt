-- What crates above this one need of the crates below it.
pub use Rattle.text_depth.specs.HandedOn.{IsTermsReading, IsTermsFault, HasOneOutcome, ReadFault, NoMemory, IsSpecificationReading, BadByte}
pub use Rattle.text_depth.specs.HandedOn.{IsOrderReadFault, IsOrderReading, IsSpecificationFault, left_out, TextsHaveOneOutcome, TooLong}
pub use Rattle.text_depth.specs.HandedOn.{OpenComment, Syntax, TooDeep}
pub use Rattle.text_depth.specs.HandedOn.read_fault
pub use Rattle.text_depth.specs.HandedOn.read_faults
