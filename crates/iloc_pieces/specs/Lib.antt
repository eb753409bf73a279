pub mod Pieces
pub mod Escaped
