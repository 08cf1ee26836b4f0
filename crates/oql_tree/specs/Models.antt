-- What the models of queries need beside their views: a code, sizes, and that the sizes fall.
pub mod Weights
pub mod QueryCode
pub mod Falls
