pub mod ReadableTexts
