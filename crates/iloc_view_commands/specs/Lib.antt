pub mod Explain
pub mod Graph
pub mod Trace
