pub mod Closed
pub mod Instances
pub mod KindOut
pub mod Commute
pub mod RuleTests
pub mod RuleLaws
pub mod Occurring
mod SubstitutionExamples
mod HoldingExamples
pub mod RuleTested
mod RuleOkExamples
mod RuleChecksExamples
pub mod NodeLaws
pub mod PairLaws
pub mod BindLaws
pub mod FieldLaws
pub mod FieldsUnder
pub mod InstanceLaws
pub mod LeadingLaws
pub mod DemandLaws
pub mod SpottingLaws
pub mod MatchedLaws
pub mod InstanceConditions
pub mod AgreeingLaws
pub mod GivingLaws
