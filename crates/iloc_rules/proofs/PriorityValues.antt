-- The priorities.
pub mod Chains
pub mod Longest
pub mod Starts
pub mod Named
pub mod LongestWhere
