-- How the bound is found.
pub mod Tails
