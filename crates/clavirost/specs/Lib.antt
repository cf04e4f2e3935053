pub mod Numbers
pub mod Told
pub mod Places
