pub mod Translation
pub mod TranslationAnswers
pub mod Building
pub mod Parts
