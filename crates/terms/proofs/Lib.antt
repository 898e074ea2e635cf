pub mod Laws
pub mod Digits
pub mod Sets
pub mod Decoded
pub mod Same
pub mod Good
