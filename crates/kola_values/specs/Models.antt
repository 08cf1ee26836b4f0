-- What the models of types and values need beside their views: codes, sizes, and that the sizes fall.
pub mod Weights
pub mod TypeCode
pub mod Exact
pub mod Total
pub mod Falls
