-- What the code does piece by piece, as steps of proof: no contract of a public function names them.
pub mod Rule
pub mod Inside
pub mod RunningCore
pub mod Course
pub mod Closing
pub mod Row
pub mod Answers
