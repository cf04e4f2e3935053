pub mod Basis
pub mod Backward
pub mod Order
