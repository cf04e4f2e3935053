pub mod Bits
pub mod Space
pub mod Combination
pub mod Question
pub mod Rows
pub mod Flat
pub mod Product
