pub mod Words
pub mod Tables
pub mod Comments
pub mod Spans
pub mod CuttingLemmas
mod KindLemmas
