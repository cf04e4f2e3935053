pub mod Grammar
pub mod Scan
pub mod Recognised
pub mod Refusal
