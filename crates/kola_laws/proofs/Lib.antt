pub mod Truths
mod CompositionHold
mod ChoiceHold
mod RestrictionHold
mod TruthHold
mod ComparisonHold
mod IterationHold
mod JoiningHold
mod NestingHold
mod QuantifiersHold
mod SetOperationsHold
mod InjectivityHold
pub mod EveryLaw
mod Names
pub mod WellTyped
mod LawExamples
