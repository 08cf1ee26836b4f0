mod KeyLaws
pub mod Sound
pub mod Exact
mod Examples
