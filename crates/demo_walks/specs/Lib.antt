pub mod DemoWalk
pub mod DemoSummary
pub mod WalkView
pub mod WalkCases
pub mod DemoText
pub mod HandedOn
