pub mod Limits
pub mod QueryTypes
pub mod TypedQueries
pub mod QueryMeaning
pub mod Environments
pub mod CheckAnswers
pub mod Checking
pub mod ScopeTables
