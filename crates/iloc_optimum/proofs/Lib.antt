pub mod Common
mod NarrowerWindows
mod FullCycles
mod CoveredStack
mod LawfulTimings
pub mod Improvements
