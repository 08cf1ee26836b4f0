pub mod QueryLoops
