pub mod SideLaws
pub mod ScopeFor
pub mod Truth
pub mod ProfiledNumbering
pub mod SectionScope
pub mod OtherResults
pub mod ResultsView
