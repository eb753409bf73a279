pub mod Layouts
pub mod Renaming
pub mod Sets
pub mod ShortNumbers
pub mod ShortOperands
