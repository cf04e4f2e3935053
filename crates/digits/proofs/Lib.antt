pub mod Puts
pub mod Digits
pub mod Whole
pub mod Cases
