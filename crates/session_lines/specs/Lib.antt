pub mod Refusal
pub mod Answer
pub mod AnswerLaws
pub mod View
pub mod HandedOn
