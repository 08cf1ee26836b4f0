pub mod Sample
mod Examples
mod CountExamples
mod LiteralLoop
pub mod SetConstants
mod Sizes
pub mod Inversions
pub mod Introductions
pub mod Attributes
pub mod Sound
pub mod Congruent
pub mod Paths
pub mod Kept
pub mod Faulty
pub mod Unique
mod AlgebraExamples
mod Weights
pub mod ByChildren
mod WithoutLimit
mod TypeAnswers
pub mod Numbers
pub mod Replaced
pub mod InputPlaces
mod TypeExamples
mod FaultExamples
mod VisitExamples
mod TypingExamples
mod LimitExamples
pub mod FineParts
