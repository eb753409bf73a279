-- How the kept edges are made.
pub mod Filling
pub mod Lasts
pub mod PartialGraph
pub mod SoundGraph
pub mod ByAddress
