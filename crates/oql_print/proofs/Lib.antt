pub mod SpellingLoops
pub mod SpellingExamples
