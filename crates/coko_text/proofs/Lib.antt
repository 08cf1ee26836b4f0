pub mod ItemLists
pub mod LedTexts
pub mod RuleLaws
mod RuleExamples
