pub mod Tree
pub mod Text
pub mod Bytes
pub mod Construction
