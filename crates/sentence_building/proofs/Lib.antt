pub mod MadeProcesses
pub mod SortNames
pub mod WithoutToken
pub mod Meanings
