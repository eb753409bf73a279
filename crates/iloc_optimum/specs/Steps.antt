-- What the search does piece by piece, as steps of proof: no contract of a public function names them.
pub mod Inside
pub mod Covered
pub mod Improving
