pub mod ByTheBook
pub mod Decision
pub mod OwnRows
pub mod Laws
pub mod Steps
