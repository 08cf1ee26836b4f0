pub mod Limits
pub mod LedReaders
pub mod RuleGrammar
pub mod RuleReaders
pub mod RuleViews
