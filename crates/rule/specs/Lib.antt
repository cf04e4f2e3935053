pub mod Says
pub mod Copied
