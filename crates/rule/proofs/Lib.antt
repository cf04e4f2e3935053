pub mod Copies
pub mod Scheme
pub mod Says
