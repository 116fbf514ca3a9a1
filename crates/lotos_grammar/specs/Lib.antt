pub mod TextFault
pub mod Gathering
pub mod GatheredView
pub mod ShelfUse
pub mod Progress
pub mod GatheringLaws
pub mod HandedOn
