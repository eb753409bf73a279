pub mod Common
pub mod OwnRows
pub mod Sameness
pub mod Counted
