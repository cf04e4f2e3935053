pub mod Building
pub mod Made
