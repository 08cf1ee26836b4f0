pub mod Checks
pub mod TypedBy
pub mod TypesFor
pub mod Means
pub mod SmallTypes
pub mod OneFault
mod Sizes
mod ScopeTables
mod CheckLoops
mod QueryExamples
mod TypeExamples
mod FaultExamples
mod MeaningExamples
mod LimitExamples
