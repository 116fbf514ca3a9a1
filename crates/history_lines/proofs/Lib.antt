pub mod TextPieces
pub mod RefusalLemmas
pub mod StepLemmas
pub mod TextLemmas
pub mod StateLemmas
pub mod StayLemmas
pub mod CallLemmas
pub mod ServingLemmas
pub mod ServedLemmas
pub mod ShelfLemmas
pub mod ReachedLemmas
pub mod AnsweredLemmas
mod CaseLemmas
pub mod StepOnceLemmas
pub mod LineOnceLemmas
pub mod ReportOnceLemmas
pub mod ListingLemmas
pub mod HandedOn
