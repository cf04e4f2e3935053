pub mod Texts
pub mod Lines
pub mod Settled
pub mod Computed
