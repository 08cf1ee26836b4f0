pub mod ObjectViews
pub mod MeetsTests
pub mod KeyedObjects
pub mod KeyedViews
pub mod Stored
pub mod ExtentViews
