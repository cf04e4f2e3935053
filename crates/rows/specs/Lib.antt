pub mod Answered
pub mod State
