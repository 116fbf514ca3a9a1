pub mod PartView
pub mod MeaningNodes
pub mod DepthPart
pub mod RowDepth
pub mod DepthRowLaws
pub mod HandedOn
