pub mod StepFaults
pub mod TargetNodes
pub mod Leaves
pub mod Beside
pub mod HandedOn
