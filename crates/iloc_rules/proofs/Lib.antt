pub mod Common
pub mod Basics
pub mod Renamed
pub mod DelayPairs
pub mod PriorityValues
pub mod Choice
pub mod Outcome
pub mod Bounds
