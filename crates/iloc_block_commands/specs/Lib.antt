pub mod Run
pub mod Simulate
pub mod Schedule
pub mod Counts
pub mod Compare
pub mod Optimize
pub mod Lint
pub mod Steps
