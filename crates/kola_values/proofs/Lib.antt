pub mod Truth
pub mod Anys
pub mod Members
pub mod Each
pub mod Typed
pub mod Loops
pub mod SameTypes
pub mod Keeping
pub mod Making
pub mod Merging
mod Examples
mod TypedExamples
