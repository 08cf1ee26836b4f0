mod SameOutside
mod SameShown
mod ByLaw
mod Checked
mod Faults
pub mod FileFaults
mod FileLaws
mod Tables
mod StepLaws
mod Kept
mod Examples
