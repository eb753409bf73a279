-- What terms mean.
pub mod Nodes
pub mod Arithmetic
pub mod Products
pub mod Sums
pub mod MultipliedOut
pub mod Shifts
pub mod Epochs
pub mod Meanings
