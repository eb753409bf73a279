-- The renamed block: `rename`, and `Names::rename_block` below it.
pub mod GivenNames
pub mod OneMoreOperation
pub mod RenamingLoop
pub mod NewRegisters
