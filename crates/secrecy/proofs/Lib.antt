pub mod Recover
pub mod Pairing
pub mod Handed
pub mod Joined
