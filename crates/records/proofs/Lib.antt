pub mod Laws
pub mod SymbolSteps
pub mod RuleSteps
pub mod KindLaws
pub mod InputCases
