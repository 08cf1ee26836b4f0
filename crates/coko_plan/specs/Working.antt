-- What only the crate's own functions say of each other.
pub mod Seen
pub mod Marks
pub mod Sites
pub mod Groups
pub mod Puts
pub mod Compiles
