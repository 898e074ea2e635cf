pub mod Lines
pub mod Heads
pub mod Cases
