pub mod Appended
pub mod Common
pub mod IssueCycles
pub mod Parts
