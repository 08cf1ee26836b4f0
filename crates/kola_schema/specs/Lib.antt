pub mod Schemas
pub mod SchemaViews
pub mod Meets
