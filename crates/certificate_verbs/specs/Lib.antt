pub mod Finishing
pub mod NormalForms
pub mod Certificates
pub mod Comparing
pub mod Inducing
pub mod Printed
pub mod Status
pub mod HandedOn
