pub mod Derived
pub mod Inferring
