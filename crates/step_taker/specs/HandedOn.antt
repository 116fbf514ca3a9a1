-- What crates above this one need of the crates below it.
pub use Rattle.step_parts.specs.HandedOn.{KeepsData}
pub use Rattle.step_parts.specs.TargetNodes.{HasClosedParts}
pub use Rattle.step_parts.specs.declared.faults.StepFault.{StepFault}
pub use Rattle.step_parts.specs.StepFaults.{UnlessMemory}
pub use Rattle.step_parts.specs.declared.faults.StepFault.TheVariants as step_fault
