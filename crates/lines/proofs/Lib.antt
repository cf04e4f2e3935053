pub mod Fill
pub mod Laws
pub mod Clear
