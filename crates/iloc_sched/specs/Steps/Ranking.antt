-- How priorities are found.
pub mod Dependents
