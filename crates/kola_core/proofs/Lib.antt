pub mod Lists
pub mod Compare
pub mod NameLists
pub mod Integers
pub mod NameListExamples
mod IntegerExamples
