pub mod Pairing
pub mod Shown
