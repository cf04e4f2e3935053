pub mod Lists
pub mod Steps
pub mod Turns
pub mod Ends
pub mod Verdict
pub mod Settled
