pub mod Fill
pub mod Store
