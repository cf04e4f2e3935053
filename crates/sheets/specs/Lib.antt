pub mod Sheet
pub mod Says
