pub mod Evaluations
pub mod Lending
pub mod Evaluating
