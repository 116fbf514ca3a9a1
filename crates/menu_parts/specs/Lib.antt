pub mod Forms
pub mod Spread
pub mod KeptMenus
pub mod HandedOn
