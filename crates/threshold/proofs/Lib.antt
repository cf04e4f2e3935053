pub mod Ones
pub mod Search
pub mod Says
