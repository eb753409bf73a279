pub mod Cases
pub mod RegisterValues
pub mod PuttingBack
pub mod MemoryWords
pub mod Placing
pub mod Effects
pub mod Steps
pub mod Runs
