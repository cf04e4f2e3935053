pub mod Cards
pub mod Says
pub mod History
pub mod Steps
pub mod Ran
