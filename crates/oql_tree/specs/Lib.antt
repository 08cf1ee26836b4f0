pub mod QueryTrees
pub mod QueryViews
pub mod Models
