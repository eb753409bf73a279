pub mod Comparison
pub mod Difference
pub mod Memory
pub mod Void
pub mod Steps
