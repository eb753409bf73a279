-- What the code does piece by piece, as steps of proof: no contract of a public function names them.
pub mod Sources
pub mod Waits
pub mod Pairing
pub mod Colours
pub mod Numbers
pub mod Stores
pub mod Decisions
pub mod FirstColours
