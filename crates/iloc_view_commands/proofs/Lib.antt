pub mod Common
pub mod Listers
