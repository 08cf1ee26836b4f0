pub mod Schemas
pub mod Places
pub mod NameTests
pub mod SchemaExamples
