pub mod Laws
pub mod AnswerCases
