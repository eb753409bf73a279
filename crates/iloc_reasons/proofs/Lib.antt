pub mod Common
pub mod Claims
pub mod OnceListed
pub mod Numbering
