pub mod Agreement
pub mod Steps
