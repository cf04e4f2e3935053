pub mod Blocks
pub mod Checking
pub mod Filling
pub mod Settled
