pub mod Common
pub mod Checks
pub mod Departures
