pub mod Device
pub mod Limits
pub mod Listing
pub mod Schedules
pub mod Steps
