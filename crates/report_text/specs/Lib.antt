pub mod Squares
pub mod NamingView
pub mod Members
pub mod HandedOn
