pub mod Telling
pub mod Handing
pub mod Settled
