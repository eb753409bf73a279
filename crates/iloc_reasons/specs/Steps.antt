-- What the code does piece by piece, as steps of proof: no contract of a public function names them.
pub mod Sides
pub mod Terms
pub mod Likeness
pub mod Origins
