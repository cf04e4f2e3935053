pub mod Steps
pub mod Backward
pub mod Order
pub mod Rank
