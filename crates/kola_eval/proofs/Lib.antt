mod Reordered
mod Constants
mod Taking
mod Pairs
mod EvaluationExamples
