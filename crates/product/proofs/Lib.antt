pub mod Filling
pub mod Says
