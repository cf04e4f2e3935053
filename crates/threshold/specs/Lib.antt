pub mod Says
pub mod First
