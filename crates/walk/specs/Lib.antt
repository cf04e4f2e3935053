pub mod Going
pub mod Answers
