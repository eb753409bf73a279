-- What the code does piece by piece, as steps of proof: no contract of a public function names them.
pub mod Alone
pub mod Counted
pub mod Longest
pub mod Noted
pub mod Stopped
