pub mod Files
pub mod Settled
pub mod Parts
pub mod Cases
pub mod Prints
pub mod FileRead
