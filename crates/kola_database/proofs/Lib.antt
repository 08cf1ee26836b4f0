pub mod Rises
pub mod MeetingLoops
pub mod MeetingTypes
pub mod Meeting
pub mod Sorting
pub mod KeyedObjects
pub mod KeyLoops
pub mod Reordered
pub mod Stored
pub mod Runs
pub mod Numbered
mod MeetExamples
mod DbExamples
