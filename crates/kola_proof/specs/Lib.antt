pub mod Steps
pub mod Drafts
pub mod Accepting
pub mod CauseNames
pub mod Outside
pub mod Checks
