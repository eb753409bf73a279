pub mod Commands
pub mod Headline
pub mod Laws
pub mod Reads
pub mod Reason
pub mod Talking
pub mod Theorem
