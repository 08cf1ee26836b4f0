pub mod Texts
pub mod Digits
pub mod EncodingOrder
pub mod EncodingInverse
pub mod EncodingLoops
pub mod EncodingBack
mod SpellingExamples
mod EncodingExamples
