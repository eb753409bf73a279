pub mod Bound
pub mod Timing
pub mod Found
pub mod Optimum
pub mod Laws
pub mod Steps
