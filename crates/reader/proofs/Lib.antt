pub mod Places
pub mod Begins
pub mod Found
pub mod Ends
pub mod OneTree
pub mod Whole
pub mod Passes
pub mod Refused
