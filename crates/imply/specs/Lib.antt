pub mod Imply
pub mod ImplyLaws
pub mod Filter
