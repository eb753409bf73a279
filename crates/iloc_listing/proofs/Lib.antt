pub mod Common
pub mod Numbers
pub mod Written
pub mod Joining
pub mod Schedules
pub mod Unfolded
