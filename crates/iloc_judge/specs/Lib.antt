pub mod Obstacle
pub mod Verdict
pub mod Origins
pub mod Checked
pub mod Laws
