pub mod LineLaws
pub mod WalkLaws
pub mod FoundLaws
mod RowLaws
mod Staged
pub mod AnswerLaws
pub mod StageLaws
mod AnswerExists
mod RunLaws
mod AnswerExamples
pub mod PlaceLaws
mod QueryTextLaws
mod ValueLaws
mod RulesLaws
mod RuleLines
mod RuleExamples
mod Examples
mod QueryExamples
pub mod CauseLaws
