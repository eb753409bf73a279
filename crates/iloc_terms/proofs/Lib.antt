pub mod Common
pub mod Terms
pub mod Runs
pub mod Outcomes
pub mod Addresses
