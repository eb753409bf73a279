pub mod Shares
pub mod Bound
pub mod Laws
pub mod Steps
