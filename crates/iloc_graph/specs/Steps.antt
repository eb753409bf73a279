-- What the code keeps from step to step: no contract of a public function names it.
pub mod InOrder
