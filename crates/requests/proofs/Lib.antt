pub mod Steps
pub mod Cases
pub mod Bytes
pub mod Parts
