pub mod Match
pub mod MatchLaws
pub mod FactLaws
