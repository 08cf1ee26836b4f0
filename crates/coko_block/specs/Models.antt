-- What the models of statements need beside their views: a code, sizes, and that the sizes fall.
pub mod TermCode
pub mod StmtCode
pub mod Weights
pub mod Falls
