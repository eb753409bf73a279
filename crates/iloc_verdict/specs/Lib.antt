pub mod Changes
pub mod Checked
pub mod Obstacle
pub mod Entry
pub mod Kept
pub mod Remarks
pub mod UnitRule
pub mod Counted
