pub mod Integers
pub mod NameLists
