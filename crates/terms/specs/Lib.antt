pub mod Facts
pub mod Vars
pub mod OpenLaws
pub mod Walk
