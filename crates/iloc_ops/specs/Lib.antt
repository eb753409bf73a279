pub mod Forms
pub mod Operands
pub mod Registers
pub mod Spelling
pub mod Columns
pub mod Limits
pub mod Laws
pub mod Steps
