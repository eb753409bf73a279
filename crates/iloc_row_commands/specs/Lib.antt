pub mod Check
pub mod Explain
pub mod Trace
pub mod Laws
pub mod Steps
