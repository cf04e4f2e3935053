pub mod Tests
pub mod Refusals
pub mod Outcomes
pub mod Settled
pub mod Over
