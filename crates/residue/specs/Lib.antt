pub mod Prime
pub mod Moduli
pub mod Residue
