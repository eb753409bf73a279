pub mod Registers
pub mod ByConstant
pub mod LastByConstant
pub mod Dependences
pub mod Successors
