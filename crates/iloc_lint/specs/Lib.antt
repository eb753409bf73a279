pub mod Faults
pub mod Refused
pub mod Laws
pub mod Listing
pub mod Place
pub mod Steps
pub mod Row
