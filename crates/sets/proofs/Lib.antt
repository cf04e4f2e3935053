pub mod Mask
pub mod Read
pub mod Asked
