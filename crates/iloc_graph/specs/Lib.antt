pub mod Nearest
pub mod Listing
pub mod Laws
pub mod Steps
