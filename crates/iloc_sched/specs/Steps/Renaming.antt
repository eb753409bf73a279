-- How registers are renamed.
pub mod ByRegister
pub mod CurrentNames
pub mod NamingWalk
pub mod Registers
