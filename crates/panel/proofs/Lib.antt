pub mod Laying
pub mod Refused
pub mod Settled
pub mod Marks
pub mod Stored
pub mod Holds
pub mod Runs
