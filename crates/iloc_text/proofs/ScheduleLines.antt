-- The scanner reads what the lines of a schedule say, and each such line.
pub mod Read
pub mod Again
pub mod Says
