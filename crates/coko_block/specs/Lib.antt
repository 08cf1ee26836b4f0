pub mod Statements
pub mod StmtViews
pub mod Models
pub mod Files
pub mod FileViews
pub mod WellFormed
