pub mod Places
pub mod Events
pub mod Listing
pub mod Laws
pub mod Steps
