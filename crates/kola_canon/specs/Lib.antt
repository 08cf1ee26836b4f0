pub mod Spelling
pub mod Encoding
