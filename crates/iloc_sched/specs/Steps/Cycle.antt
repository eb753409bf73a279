-- How one cycle after another is filled.
pub mod Calendar
pub mod Classes
pub mod Counting
pub mod Opening
pub mod Order
pub mod Progress
pub mod RankSets
pub mod SoFar
