-- The run of a schedule in terms, from its start to its end.
pub mod Tracking
pub mod Rows
