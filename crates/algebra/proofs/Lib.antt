pub mod Cases
pub mod Ring
pub mod Normal
pub mod Sum
