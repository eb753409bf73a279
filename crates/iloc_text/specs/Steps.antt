-- What the code does piece by piece, as steps of proof: no contract of a public function names them.
pub mod LineReads
pub mod Opcodes
pub mod Scan
pub mod ScheduleScan
pub mod Copied
pub mod Digits
pub mod FastPath
pub mod Growth
pub mod Open
pub mod Verdicts
pub mod TextReads
pub mod PartReads
