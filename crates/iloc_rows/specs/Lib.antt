pub mod Fault
pub mod Names
pub mod Told
pub mod Proposing
pub mod EitherSlot
pub mod Submissions
pub mod Laws
pub mod Steps
