pub mod Suited
pub mod Unlisted
pub mod InstanceTerms
pub mod InstanceLaws
pub mod Instances
