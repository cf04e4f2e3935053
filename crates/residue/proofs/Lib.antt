pub mod Modulo
pub mod Prime
pub mod Moduli
pub mod Field
pub mod Arith
