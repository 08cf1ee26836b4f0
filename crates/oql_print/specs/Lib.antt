pub mod QuerySpelling
