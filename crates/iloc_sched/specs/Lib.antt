pub mod Scheduled
pub mod Counted
pub mod Steps
pub mod Graph
