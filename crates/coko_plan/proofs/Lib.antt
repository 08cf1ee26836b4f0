pub mod EntryLaws
mod Standing
mod Covering
mod Seeing
mod Taking
mod Wanting
mod Fitting
mod Reaching
mod Finding
mod Putting
mod Blocks
mod Made
mod Writing
mod PlanExamples
