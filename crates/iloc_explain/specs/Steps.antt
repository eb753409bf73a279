-- What the code keeps from step to step: no contract of a public function names them.
pub mod Issued
pub mod Ready
pub mod Waits
pub mod Links
pub mod SoFar
pub mod Greatest
pub mod Walk
pub mod Queue
pub mod CycleParts
