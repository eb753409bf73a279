pub mod Common
pub mod Comparisons
pub mod Listers
