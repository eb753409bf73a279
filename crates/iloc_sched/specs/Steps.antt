-- What the code does piece by piece, as steps of proof: no contract of a public function names them.
pub mod Graph
pub mod Views
pub mod Chains
pub mod Cycle
pub mod Edges
pub mod Ranking
pub mod Renaming
