pub mod TypesRead
pub mod Stored
pub mod Encoded
pub mod Fields
pub mod Meant
pub mod SetTerms
pub mod Valued
pub mod TermTypes
pub mod FieldLists
pub mod ScopeLoops
pub mod Limited
pub mod Exact
pub mod Answered
pub mod RangeCounts
pub mod Built
mod SampleQueries
mod Examples
pub mod Fitting
